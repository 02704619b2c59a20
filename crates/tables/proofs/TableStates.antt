-- The states of a table: all reached, no two alike, and no more than the codes of any automaton that accepts the same.
use Rattle.std.proofs.Common.{◌≡◌, ℕ, ◌<◌, ◌≤◌, sym, refl, ◌∙◌, subst, arith}
use Rattle.trees.specs.Shapes.{Limited}
use Rattle.trees.specs.Trees.{leaf}
use Rattle.automata.specs.Automata.{Automaton, Lawful, code, Alike}
use Rattle.automata.specs.Numbering.{Table, own_table, CodesAreStates}
use Rattle.automata.proofs.Codes.{code_lt}
use Rattle.automata.proofs.States.{has_leaf, no_marks}
use Rattle.tables.specs.Tables.{TableOf, table_automaton, AcceptSame}
use Rattle.tables.proofs.Contexts.{reached, Untold, alike_untold, untold_alike, accept_untold}
use Rattle.tables.proofs.SameTables.{same_sym, same_own, same_met, same_table_of}
use Rattle.tables.proofs.TableRuns.{state_lt, tree_at, table_code, table_accepts}
use Rattle.tables.proofs.OwnTables.{alike_same, own_table_of}
use Rattle.tables.proofs.Pigeons.{pigeon}

module _ (M : Automaton) (T : Table) (o : TableOf M T) where
  abbrev X : Automaton
  X = table_automaton M.shape T

  -- states whose trees no context tells apart are one
  untold_same : (x y : ℕ) (h : x < T.states) (k : y < T.states) → Untold M (tree_at M T o x h).0 (tree_at M T o y k).0 → x ≡ y
  untold_same x y h k un =
      let v = tree_at M T o x h in
      let w = tree_at M T o y k in
      sym v.2
      ∙ ((o.classes (code M v.0) (code M w.0) (reached M v.0 v.1) (reached M w.0 w.1)).1 (untold_alike M v.0 w.0 un) ∙ w.2)

  pub table_states : CodesAreStates (table_automaton M.shape T)
  table_states = record {
    reached = λ x h. let w = tree_at M T o x h in (w.0, w.1, code_is x h);
    apart = λ x y h k al.
        let v = tree_at M T o x h in
        let w = tree_at M T o y k in
        untold_same x y h k (accept_untold M X refl (λ t h. sym (table_accepts M T o t h)) v.0 w.0 v.1 w.1
        (alike_untold X v.0 w.0
        (subst (λ (z : ℕ). Alike X z (code X w.0)) (sym (code_is x h)) (subst (Alike X x) (sym (code_is y k)) al))));
    met = same_met M.shape T (own_table X) (same_own M.shape T) o.met;
  }
    where
      code_is : (x : ℕ) (h : x < T.states) → code X (tree_at M T o x h).0 ≡ x
      code_is x h = let w = tree_at M T o x h in table_code M T o w.0 w.1 ∙ w.2

  pub table_again : TableOf (table_automaton M.shape T) T
  table_again =
      same_table_of X (own_table X) T (same_sym M.shape T (own_table X) (same_own M.shape T))
      (own_table_of X (λ x r. subst (λ (y : ℕ). y < T.states) (sym (table_code M T o r.0 r.1) ∙ r.2) (state_lt M T o r.0 r.1)) table_states)

  pub some_state : Limited M.shape → 1 ≤ T.states
  some_state ok = omega (arith, state_lt M T o (leaf 0 0) (has_leaf M.shape ok, no_marks M.shape))

  -- trees of different states have different codes of M'
  pub fewest : (M' : Automaton) → M.shape ≡ M'.shape → Lawful M' → AcceptSame M M' → T.states ≤ M'.count
  fewest M' e ok agrees =
      pigeon M'.count T.states (λ s h. code M' (tree_at M T o s h).0) (λ s h. code_lt M' ok (tree_at M T o s h).0)
      (λ s u h k z.
      let v = tree_at M T o s h in
      let w = tree_at M T o u k in
      untold_same s u h k (accept_untold M M' e agrees v.0 w.0 v.1 w.1
      (alike_untold M' v.0 w.0 (alike_same M' (code M' v.0) (code M' w.0) z))))

  pub states_few : Lawful M → T.states ≤ M.count
  states_few ok = fewest M refl ok (λ t h. refl)
