-- Two tables whose states part the trees alike, both numbered as first met, are the same table.
use Rattle.std.proofs.Common.{◌≡◌, ℕ, zero, suc, ◌<◌, ◌≤◌, ◌⊎◌, ◌↔◌, sym, refl, ap, ◌∙◌, subst, ap₂, inl, inr, arith}
use native.Mathlib.Decide.{dec_lt}
use Rattle.std.proofs.lemmas.Bool.{cases_order}
use Rattle.trees.specs.declared.shape.Shape.{Shape}
use Rattle.trees.specs.Shapes.{LeafLabel, InnerLabel, Marks}
use Rattle.trees.specs.Trees.{Tree, leaf, inner, Shaped}
use Rattle.automata.specs.Numbering.{Table, Question, at_leaf, at_inner, answer, Over, place, MetAt, FirstMet}
use Rattle.automata.proofs.Places.{place_inj}
use Rattle.tables.proofs.SameTables.{over_more}

-- each tree has a state of T by α, and each state a tree
pub record Reads (sh : Shape) (T : Table) (α : Tree → ℕ) : Type 0 where
  pub at_a_leaf : (a m : ℕ) → LeafLabel sh a → Marks sh m → α (leaf a m) ≡ T.leaf_cell a m
  pub at_an_inner : (a m : ℕ) (l r : Tree) → InnerLabel sh a → Marks sh m → Shaped sh l → Shaped sh r → α (inner a m l r) ≡ T.inner_cell a m (α l) (α r)
  pub below : (t : Tree) → Shaped sh t → α t < T.states
  pub onto : (s : ℕ) → s < T.states → (t : Tree) × Shaped sh t × (α t ≡ s)
  pub met : FirstMet sh T

-- α and β agree on the states below s
abbrev AgreeBelow : Shape → (Tree → ℕ) → (Tree → ℕ) → ℕ → Type 0
AgreeBelow sh α β s = (t : Tree) → Shaped sh t → (k : ℕ) → k < s → (α t ≡ k) ↔ (β t ≡ k)

-- a tree whose root asks q
record Asks (sh : Shape) (A B : Table) (α β : Tree → ℕ) (q : Question) : Type 0 where
  tree : Tree
  shaped : Shaped sh tree
  by_α : α tree ≡ answer A q
  by_β : β tree ≡ answer B q

asker : (sh : Shape) (A B : Table) (α β : Tree → ℕ) → Reads sh A α → Reads sh B β → (s : ℕ) → AgreeBelow sh α β s → s ≤ A.states
    → (q : Question) → Over sh s q → Asks sh A B α β q
asker sh A B α β Ra RB s ih h (at_leaf a m) o =
    record { tree = leaf a m; shaped = o; by_α = Ra.at_a_leaf a m o.0 o.1; by_β = RB.at_a_leaf a m o.0 o.1 }
asker sh A B α β Ra RB s ih h (at_inner a m x y) o =
    let X = Ra.onto x (omega arith) in
    let Y = Ra.onto y (omega arith) in
    record {
      tree = inner a m X.0 Y.0;
      shaped = (o.0, o.1, X.1, Y.1);
      by_α = Ra.at_an_inner a m X.0 Y.0 o.0 o.1 X.1 Y.1 ∙ ap₂ (A.inner_cell a m) X.2 Y.2;
      by_β = RB.at_an_inner a m X.0 Y.0 o.0 o.1 X.1 Y.1
          ∙ ap₂ (B.inner_cell a m) ((ih X.0 X.1 x o.2).0 X.2) ((ih Y.0 Y.1 y o.3).0 Y.2);
    }

-- a tree of A's state s has B's state s: otherwise one of the two tables would have met s at an earlier question
forth : (sh : Shape) (A B : Table) (α β : Tree → ℕ) → Reads sh A α → Reads sh B β
    → ((t u : Tree) → Shaped sh t → Shaped sh u → α t ≡ α u → β t ≡ β u)
    → (s : ℕ) → AgreeBelow sh α β s → (t : Tree) → Shaped sh t → α t ≡ s → β t ≡ s
forth sh A B α β Ra RB kernel s ih t h e = kernel t W.tree h W.shaped (e ∙ sym met_α) ∙ pick (cases_order (β W.tree) s)
  where
    in_A : s < A.states
    in_A = subst (λ (n : ℕ). n < A.states) e (Ra.below t h)

    Q : (q : Question) × MetAt sh A s q
    Q = Ra.met s in_A

    W : Asks sh A B α β Q.0
    W = asker sh A B α β Ra RB s ih (omega arith) Q.0 Q.1.over

    met_α : α W.tree ≡ s
    met_α = W.by_α ∙ Q.1.is

    above : s < β W.tree → ⊥
    above g = order (cases_order (place sh Q.0) (place sh P.0))
      where
        in_B : s < B.states
        in_B = omega (arith, RB.below W.tree W.shaped, g)

        P : (q : Question) × MetAt sh B s q
        P = RB.met s in_B

        V : Asks sh A B α β P.0
        V = asker sh A B α β Ra RB s ih (omega (arith, in_A)) P.0 P.1.over

        order : (place sh Q.0 ≡ place sh P.0) ⊎ ((place sh Q.0 < place sh P.0) ⊎ (place sh P.0 < place sh Q.0)) → ⊥
        order (inl k) =
            let z : Q.0 ≡ P.0 = place_inj sh s Q.0 P.0 Q.1.over P.1.over k in
            let y : β W.tree ≡ s = W.by_β ∙ (ap (answer B) z ∙ P.1.is) in
            omega (arith, y, g)
        order (inr (inl l)) =
            let z : answer B Q.0 < s = P.1.first Q.0 (over_more sh s B.states Q.0 (omega (arith, in_B)) Q.1.over) l in
            omega (arith, W.by_β, z, g)
        order (inr (inr l)) =
            let z : answer A P.0 < s = Q.1.first P.0 (over_more sh s A.states P.0 (omega (arith, in_A)) P.1.over) l in
            let y : α V.tree < s = omega (arith, V.by_α, z) in
            let x : β V.tree ≡ α V.tree = (ih V.tree V.shaped (α V.tree) y).0 refl in
            omega (arith, x, y, V.by_β, P.1.is)

    pick : (β W.tree ≡ s) ⊎ ((β W.tree < s) ⊎ (s < β W.tree)) → β W.tree ≡ s
    pick (inl k) = k
    pick (inr (inl l)) = let z : α W.tree ≡ β W.tree = (ih W.tree W.shaped (β W.tree) l).1 refl in absurd (omega (arith, z, met_α, l))
    pick (inr (inr g)) = absurd (above g)

module _ (sh : Shape) (A B : Table) (α β : Tree → ℕ) (Ra : Reads sh A α) (RB : Reads sh B β)
    (kernel : (t u : Tree) → Shaped sh t → Shaped sh u → (α t ≡ α u) ↔ (β t ≡ β u)) where
  agree : (n : ℕ) → AgreeBelow sh α β n
  agree zero t h k l = absurd (omega arith)
  agree (suc n) t h k l = go (agree n) (dec_lt k n)
    where
      go : AgreeBelow sh α β n → Dec (k < n) → (α t ≡ k) ↔ (β t ≡ k)
      go ih (yes p) = ih t h k p
      go ih (no p) =
          let e : k ≡ n = omega arith in
          subst (λ (j : ℕ). (α t ≡ j) ↔ (β t ≡ j)) (sym e) (
            forth sh A B α β Ra RB (λ u v h k. (kernel u v h k).0) n ih t h,
            forth sh B A β α RB Ra (λ u v h k. (kernel u v h k).1) n (λ u h k l. ((ih u h k l).1, (ih u h k l).0)) t h,
          )

  pub states_agree : (t : Tree) → Shaped sh t → β t ≡ α t
  states_agree t h = (agree (suc (α t)) t h (α t) (omega arith)).0 refl

  pub states_le : A.states ≤ B.states
  states_le = go (dec_lt B.states A.states)
    where
      go : Dec (B.states < A.states) → A.states ≤ B.states
      go (no h) = omega arith
      go (yes h) = let w = Ra.onto B.states h in absurd (omega (arith, RB.below w.0 w.1, states_agree w.0 w.1, w.2))

  pub cells_agree : (q : Question) → Over sh A.states q → answer A q ≡ answer B q
  cells_agree q o =
      let w = asker sh A B α β Ra RB A.states (agree A.states) (omega arith) q o in
      sym w.by_α ∙ (sym (states_agree w.tree w.shaped) ∙ w.by_β)
