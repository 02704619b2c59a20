-- The bytes of a table: they are one list, they give the table back, and they answer as the table does.
use Rattle.std.proofs.Common.{◌≡◌, ℕ, ◌+◌, ◌<◌, ◌≤◌, eqb, ltb, ◌⊎◌, List, get_or, sym, ap, ◌∙◌, inl, inr, arith}
use Rattle.std.proofs.lemmas.List.{ext_get_or}
use Rattle.std.proofs.lemmas.Bool.{cases_lt, lt-ltb, cond-true}
use Rattle.trees.specs.declared.shape.Shape.{Shape}
use Rattle.trees.specs.Shapes.{InnerLabel, Marks}
use Rattle.trees.specs.Trees.{Tree, Shaped}
use Rattle.automata.specs.Automata.{Automaton, accepts}
use Rattle.automata.specs.Atoms.{one_if}
use Rattle.automata.specs.Numbering.{Table, Question, at_leaf, at_inner, answer, Over, own_table}
use Rattle.automata.proofs.Guards.{guard_leaf, guard_inner, guard_final}
use Rattle.tables.specs.Tables.{SameTable, Closed, TableOf}
use Rattle.tables.specs.Images.{Image, states_of, kept, leaf_address, inner_address, bytes_automaton}
use Rattle.tables.proofs.Flags.{one_if_inj, one_if_eqb}
use Rattle.tables.proofs.Addresses.{Addressed, at_states, at_final, at_leaf_cell, at_inner_cell, addressed}
use Rattle.tables.proofs.TableRuns.{closed, same_accepts}

module _ (sh : Shape) (N : ℕ) where
  pub image_bytes : (A B : Table) (bs cs : List ℕ) → Image sh N A bs → Image sh N B cs → SameTable sh A B → bs ≡ cs
  image_bytes A B bs cs p q same =
      ext_get_or 0 bs cs (p.long ∙ sym q.long) (λ i h. at i (addressed sh N i (omega (arith, p.long))))
    where
      final : (s : ℕ) → s < N → (s < A.states) ⊎ (A.states ≤ s) → get_or bs (1 + s) 0 ≡ get_or cs (1 + s) 0
      final s h (inl l) = p.final s l ∙ (ap one_if (same.final s l) ∙ sym (q.final s (omega (arith, same.states))))
      final s h (inr l) = p.unused_final s l h ∙ sym (q.unused_final s (omega (arith, same.states)) h)

      inner : (a m x y : ℕ) → InnerLabel sh a → Marks sh m → x < N → y < N → (x < A.states) ⊎ (A.states ≤ x) → (y < A.states) ⊎ (A.states ≤ y)
          → get_or bs (inner_address sh N a m x y) 0 ≡ get_or cs (inner_address sh N a m x y) 0
      inner a m x y h k hx hy (inl u) (inl v) =
          p.inner_cell a m x y h k u v
          ∙ (same.cells (at_inner a m x y) (h, k, u, v) ∙ sym (q.inner_cell a m x y h k (omega (arith, same.states)) (omega (arith, same.states))))
      inner a m x y h k hx hy (inl u) (inr v) = p.unused_inner a m x y h k hx hy (inr v) ∙ sym (q.unused_inner a m x y h k hx hy (inr (omega (arith, same.states))))
      inner a m x y h k hx hy (inr u) d = p.unused_inner a m x y h k hx hy (inl u) ∙ sym (q.unused_inner a m x y h k hx hy (inl (omega (arith, same.states))))

      at : (i : ℕ) → Addressed sh N i → get_or bs i 0 ≡ get_or cs i 0
      at i at_states = p.states ∙ (same.states ∙ sym q.states)
      at i (at_final s h) = final s h (cases_lt s A.states)
      at i (at_leaf_cell a m h k) = p.leaf_cell a m h k ∙ (same.cells (at_leaf a m) (h, k) ∙ sym (q.leaf_cell a m h k))
      at i (at_inner_cell a m x y h k hx hy) = inner a m x y h k hx hy (cases_lt x A.states) (cases_lt y A.states)

  pub image_table : (A B : Table) (bs : List ℕ) → Image sh N A bs → Image sh N B bs → SameTable sh A B
  image_table A B bs p q = record { states = states; final = final; cells = cells }
    where
      states : A.states ≡ B.states
      states = sym p.states ∙ q.states

      final : (s : ℕ) → s < A.states → A.final s ≡ B.final s
      final s h = one_if_inj (A.final s) (B.final s) (sym (p.final s h) ∙ q.final s (omega (arith, states)))

      cells : (q : Question) → Over sh A.states q → answer A q ≡ answer B q
      cells (at_leaf a m) o = sym (p.leaf_cell a m o.0 o.1) ∙ q.leaf_cell a m o.0 o.1
      cells (at_inner a m x y) o =
          sym (p.inner_cell a m x y o.0 o.1 o.2 o.3) ∙ q.inner_cell a m x y o.0 o.1 (omega (arith, states)) (omega (arith, states))

  kept_lt : (c x : ℕ) → x < c → kept c x ≡ x
  kept_lt c x h = cond-true (ltb x c) x 0 (lt-ltb x c h)

  module _ (T : Table) (bs : List ℕ) (im : Image sh N T bs) (some : 1 ≤ T.states) where
    image_states : states_of N bs ≡ T.states
    image_states = omega (arith, im.few, im.states)

    pub image_answers : Closed sh T → SameTable sh T (own_table (bytes_automaton sh N bs))
    image_answers inside = record { states = sym image_states; final = final; cells = cells }
      where
        final : (s : ℕ) → s < T.states → T.final s ≡ (bytes_automaton sh N bs).final s
        final s h =
            sym (guard_final (states_of N bs) s (eqb (get_or bs (1 + s) 0) 1) (omega (arith, image_states))
            ∙ (ap (λ (b : ℕ). eqb b 1) (im.final s h) ∙ one_if_eqb (T.final s)))

        read : (v w : ℕ) → v ≡ w → w < T.states → kept (states_of N bs) v ≡ w
        read v w e h = kept_lt (states_of N bs) v (omega (arith, image_states)) ∙ e

        cells : (q : Question) → Over sh T.states q → answer T q ≡ answer (own_table (bytes_automaton sh N bs)) q
        cells (at_leaf a m) o =
            sym (guard_leaf sh a m (kept (states_of N bs) (get_or bs (leaf_address sh N a m) 0)) o.0 o.1
            ∙ read (get_or bs (leaf_address sh N a m) 0) (T.leaf_cell a m) (im.leaf_cell a m o.0 o.1) (inside (at_leaf a m) o))
        cells (at_inner a m x y) o =
            sym (guard_inner sh (states_of N bs) a m x y (kept (states_of N bs) (get_or bs (inner_address sh N a m x y) 0)) o.0 o.1
            (omega (arith, image_states)) (omega (arith, image_states))
            ∙ read (get_or bs (inner_address sh N a m x y) 0) (T.inner_cell a m x y) (im.inner_cell a m x y o.0 o.1 o.2 o.3) (inside (at_inner a m x y) o))

-- a slot that holds M's table accepts what M does
pub image_accepts : (M : Automaton) (N : ℕ) (T : Table) (bs : List ℕ) → TableOf M T → Image M.shape N T bs → 1 ≤ T.states
    → (t : Tree) → Shaped M.shape t → accepts (bytes_automaton M.shape N bs) t ≡ accepts M t
image_accepts M N T bs o im some =
    same_accepts M T o (bytes_automaton M.shape N bs) (image_answers M.shape N T bs im some (closed M T o))
