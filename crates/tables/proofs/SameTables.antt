-- Tables that are the same as far as the shape asks; and that such a table is as good as the other.
use Rattle.std.proofs.Common.{◌≡◌, ℕ, ◌≤◌, sym, refl, ◌∙◌, arith}
use Rattle.trees.specs.declared.shape.Shape.{Shape}
use Rattle.automata.specs.Automata.{Automaton}
use Rattle.automata.specs.Numbering.{Table, Question, at_leaf, at_inner, answer, Over, FirstMet, own_table}
use Rattle.automata.proofs.Guards.{guard_leaf, guard_inner, guard_final}
use Rattle.tables.specs.Tables.{SameTable, Closed, table_automaton, TableOf}

pub over_more : (sh : Shape) (n k : ℕ) (q : Question) → n ≤ k → Over sh n q → Over sh k q
over_more sh n k (at_leaf a m) h o = o
over_more sh n k (at_inner a m x y) h o = (o.0, o.1, omega arith, omega arith)

module _ (sh : Shape) where
  pub same_refl : (A : Table) → SameTable sh A A
  same_refl A = record { states = refl; final = λ s h. refl; cells = λ q o. refl }

  pub same_sym : (A B : Table) → SameTable sh A B → SameTable sh B A
  same_sym A B e = record {
    states = sym e.states;
    final = λ s h. sym (e.final s (omega arith));
    cells = λ q o. sym (e.cells q (over_more sh B.states A.states q (omega arith) o));
  }

  pub same_trans : (A B C : Table) → SameTable sh A B → SameTable sh B C → SameTable sh A C
  same_trans A B C e f = record {
    states = e.states ∙ f.states;
    final = λ s h. e.final s h ∙ f.final s (omega arith);
    cells = λ q o. e.cells q o ∙ f.cells q (over_more sh A.states B.states q (omega arith) o);
  }

  -- the guard of a table's automaton changes nothing that the shape asks
  pub same_own : (T : Table) → SameTable sh T (own_table (table_automaton sh T))
  same_own T = record { states = refl; final = λ s h. sym (guard_final T.states s (T.final s) h); cells = cells }
    where
      cells : (q : Question) → Over sh T.states q → answer T q ≡ answer (own_table (table_automaton sh T)) q
      cells (at_leaf a m) o = sym (guard_leaf sh a m (T.leaf_cell a m) o.0 o.1)
      cells (at_inner a m x y) o = sym (guard_inner sh T.states a m x y (T.inner_cell a m x y) o.0 o.1 o.2 o.3)

  module _ (A B : Table) (same : SameTable sh A B) where
    back : (q : Question) → Over sh B.states q → Over sh A.states q
    back q o = over_more sh B.states A.states q (omega arith) o

    pub same_closed : Closed sh A → Closed sh B
    same_closed h q o = let z = h q (back q o) in let e = same.cells q (back q o) in omega arith

    pub same_met : FirstMet sh A → FirstMet sh B
    same_met met s h =
        let w = met s (omega arith) in
        let q = w.0 in
        let o : Over sh A.states w.0 = over_more sh s A.states w.0 (omega arith) w.1.over in (
          w.0,
          record {
            over = w.1.over;
            is = sym (same.cells w.0 o) ∙ w.1.is;
            first = λ q' p l. let z = w.1.first q' (back q' p) l in let e = same.cells q' (back q' p) in omega arith;
          },
        )

pub same_table_of : (M : Automaton) (A B : Table) → SameTable M.shape A B → TableOf M A → TableOf M B
same_table_of M A B same o = record {
  state = o.state;
  state_in = λ x r. let z = o.state_in x r in omega arith;
  state_of = λ s h. o.state_of s (omega arith);
  classes = o.classes;
  finals = λ x r. sym (same.final (o.state x) (o.state_in x r)) ∙ o.finals x r;
  leaves = λ a m h k. sym (same.cells (at_leaf a m) (h, k)) ∙ o.leaves a m h k;
  inners = λ a m x y h k rx ry.
      sym (same.cells (at_inner a m (o.state x) (o.state y)) (h, k, o.state_in x rx, o.state_in y ry)) ∙ o.inners a m x y h k rx ry;
  met = same_met M.shape A B same o.met;
}
