-- The codes found are exactly the reached ones; cells of alike codes are alike.
use Rattle.std.proofs.Common.{◌≡◌, ℕ, zero, suc, ◌<◌, sym, ap, ◌∙◌, subst, ap₂, arith}
use Rattle.trees.specs.Shapes.{InnerLabel, Marks}
use Rattle.trees.specs.Trees.{Tree, leaf, inner, Shaped}
use Rattle.automata.specs.Automata.{Automaton, Reached, Alike, code}
use Rattle.automata.specs.Numbering.{Table, Question, at_leaf, at_inner, Over}
use Rattle.tables.specs.Exploring.{ask, Explored}
use Rattle.tables.proofs.Contexts.{steps_alike}
use Rattle.tables.proofs.SameTables.{over_more}

-- codes that each answer a question over codes before them are reached
module _ (M : Automaton) (codes : ℕ → ℕ) (n : ℕ) (from : (s : ℕ) → s < n → (q : Question) × Over M.shape s q × (ask M codes q ≡ codes s)) where
  upto : (k s : ℕ) → s < k → s < n → Reached M (codes s)
  upto zero s h l = absurd (omega arith)
  upto (suc k) s h l = let w = from s l in at (upto k) w.0 w.1 w.2
    where
      at : ((i : ℕ) → i < k → i < n → Reached M (codes i)) → (q : Question) → Over M.shape s q → ask M codes q ≡ codes s → Reached M (codes s)
      at ih (at_leaf a m) o e = (leaf a m, o, e)
      at ih (at_inner a m x y) o e =
          let X = ih x (omega arith) (omega arith) in
          let Y = ih y (omega arith) (omega arith) in
          (inner a m X.0 Y.0, (o.0, o.1, X.1, Y.1), ap₂ (M.inner_step a m) X.2 Y.2 ∙ e)

  pub answers_reached : (s : ℕ) → s < n → Reached M (codes s)
  answers_reached s h = upto (suc s) s (omega arith) h

module _ (M : Automaton) (codes : ℕ → ℕ) (E : Table) (ex : Explored M codes E) where
  pub found_reached : (i : ℕ) → i < E.states → Reached M (codes i)
  found_reached =
      answers_reached M codes E.states
      (λ s h. let w = ex.met s h in
      (w.0, w.1.over, sym (ex.is w.0 (over_more M.shape s E.states w.0 (omega arith) w.1.over)) ∙ ap codes w.1.is))

  pub index : (t : Tree) → Shaped M.shape t → (i : ℕ) × (i < E.states) × (codes i ≡ code M t)
  index (leaf a m) h = (E.leaf_cell a m, ex.inside (at_leaf a m) h, ex.is (at_leaf a m) h)
  index (inner a m l r) h =
      let x = index l h.2 in
      let y = index r h.3 in
      let o : Over M.shape E.states (at_inner a m x.0 y.0) = (h.0, h.1, x.1, y.1) in (
        E.inner_cell a m x.0 y.0,
        ex.inside (at_inner a m x.0 y.0) o,
        ex.is (at_inner a m x.0 y.0) o ∙ ap₂ (M.inner_step a m) x.2 y.2,
      )

  pub reached_found : (x : ℕ) → Reached M x → (i : ℕ) × (i < E.states) × (codes i ≡ x)
  reached_found x r = let w = index r.0 r.1 in (w.0, w.1, w.2 ∙ r.2)

  pub cells_alike : (a m x y x' y' : ℕ) → InnerLabel M.shape a → Marks M.shape m → x < E.states → y < E.states → x' < E.states → y' < E.states
      → Alike M (codes x) (codes x') → Alike M (codes y) (codes y') → Alike M (codes (E.inner_cell a m x y)) (codes (E.inner_cell a m x' y'))
  cells_alike a m x y x' y' h k hx hy hx' hy' p q =
      subst (λ (c : ℕ). Alike M c (codes (E.inner_cell a m x' y'))) (sym (ex.is (at_inner a m x y) (h, k, hx, hy)))
      (subst (λ (c : ℕ). Alike M (M.inner_step a m (codes x) (codes y)) c) (sym (ex.is (at_inner a m x' y') (h, k, hx', hy')))
      (steps_alike M a m (codes x) (codes y) (codes x') (codes y') h k (found_reached y hy) (found_reached x' hx') p q))
