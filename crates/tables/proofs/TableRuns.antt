-- What an automaton with the cells of M's table does on trees.
use Rattle.std.proofs.Common.{◌≡◌, ℕ, ◌^◌, ◌<◌, ◌≤◌, sym, ap, ◌∙◌, subst, ap₂}
use Rattle.trees.specs.Trees.{Tree, leaf, inner, Shaped}
use Rattle.automata.specs.Automata.{Automaton, Lawful, code, accepts}
use Rattle.automata.specs.Numbering.{Table, at_leaf, at_inner, own_table}
use Rattle.automata.proofs.Guards.{guarded_lawful}
use Rattle.tables.specs.Tables.{SameTable, Closed, table_automaton, TableOf}
use Rattle.tables.proofs.Contexts.{reached}
use Rattle.tables.proofs.SameTables.{same_own}

module _ (M : Automaton) (T : Table) (o : TableOf M T) where
  -- the state of a tree
  abbrev pub state_at : Tree → ℕ
  state_at t = o.state (code M t)

  pub state_lt : (t : Tree) → Shaped M.shape t → state_at t < T.states
  state_lt t h = o.state_in (code M t) (reached M t h)

  -- a tree for each state
  pub tree_at : (s : ℕ) → s < T.states → (t : Tree) × Shaped M.shape t × (state_at t ≡ s)
  tree_at s h = let w = o.state_of s h in (w.1.0, w.1.1, ap o.state w.1.2 ∙ w.2)

  pub closed : Closed M.shape T
  closed (at_leaf a m) k = subst (λ (s : ℕ). s < T.states) (sym (o.leaves a m k.0 k.1)) (state_lt (leaf a m) k)
  closed (at_inner a m x y) k =
      let X = tree_at x k.2 in
      let Y = tree_at y k.3 in
      let h : Shaped M.shape (inner a m X.0 Y.0) = (k.0, k.1, X.1, Y.1) in
      let e : state_at (inner a m X.0 Y.0) ≡ T.inner_cell a m x y
      = sym (o.inners a m (code M X.0) (code M Y.0) k.0 k.1 (reached M X.0 X.1) (reached M Y.0 Y.1))
      ∙ ap₂ (T.inner_cell a m) X.2 Y.2 in
      subst (λ (s : ℕ). s < T.states) e (state_lt (inner a m X.0 Y.0) h)

  module _ (A : Automaton) (same : SameTable M.shape T (own_table A)) where
    pub same_code : (t : Tree) → Shaped M.shape t → code A t ≡ state_at t
    same_code (leaf a m) h = sym (same.cells (at_leaf a m) h) ∙ o.leaves a m h.0 h.1
    same_code (inner a m l r) h =
        ap₂ (A.inner_step a m) (same_code l h.2) (same_code r h.3)
        ∙ (sym (same.cells (at_inner a m (state_at l) (state_at r)) (h.0, h.1, state_lt l h.2, state_lt r h.3))
        ∙ o.inners a m (code M l) (code M r) h.0 h.1 (reached M l h.2) (reached M r h.3))

    pub same_accepts : (t : Tree) → Shaped M.shape t → accepts A t ≡ accepts M t
    same_accepts t h =
        ap A.final (same_code t h) ∙ (sym (same.final (state_at t) (state_lt t h)) ∙ o.finals (code M t) (reached M t h))

  pub table_code : (t : Tree) → Shaped M.shape t → code (table_automaton M.shape T) t ≡ state_at t
  table_code = same_code (table_automaton M.shape T) (same_own M.shape T)

  pub table_accepts : (t : Tree) → Shaped M.shape t → accepts (table_automaton M.shape T) t ≡ accepts M t
  table_accepts = same_accepts (table_automaton M.shape T) (same_own M.shape T)

  pub table_lawful : 1 ≤ T.states → T.states ≤ 2 ^ 32 → Lawful (table_automaton M.shape T)
  table_lawful low high =
      guarded_lawful M.shape T.states T.leaf_cell T.inner_cell T.final low high
      (λ a m h k. closed (at_leaf a m) (h, k)) (λ a m x y h k u v. closed (at_inner a m x y) (h, k, u, v))
