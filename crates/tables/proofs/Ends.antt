-- Where the exploring ends: a table whose cells have the indices of the answers is explored.
use Rattle.std.proofs.Common.{◌≡◌, ℕ, ◌<◌, ◌≤◌, List, length, sym, refl, ap, ◌∙◌, subst, arith}
use Rattle.automata.specs.Automata.{Automaton}
use Rattle.automata.specs.Numbering.{Table, Question, at_leaf, at_inner, answer, Over, place}
use Rattle.tables.specs.Exploring.{code_at, ask, Known, Upto, Explored}
use Rattle.tables.proofs.SameTables.{over_more}
use Rattle.tables.proofs.Finds.{find, find_is}

module _ (M : Automaton) (cs : List ℕ) (p : ℕ) (up : Upto M cs p) where
  pub explored : (E : Table) → E.states ≡ length cs
      → ((q : Question) → Over M.shape (length cs) q → (answer E q < length cs) × (code_at cs (answer E q) ≡ ask M (code_at cs) q))
      → Explored M (code_at cs) E
  explored E e cells = record {
    inside = λ q o. let w = cells q (here q o) in omega (arith, w.0);
    is = λ q o. (cells q (here q o)).1;
    apart = λ x y h k. up.apart x y (omega arith) (omega arith);
    met = λ s h.
        let w = up.found s (omega arith) in
        let q = w.0 in
        let f = w.2 in
        let o : Over M.shape (length cs) w.0 = over_more M.shape s (length cs) w.0 (omega arith) f.over in (
          w.0,
          record {
            over = f.over;
            is = up.apart (answer E q) s (cells q o).0 (omega arith) ((cells q o).1 ∙ f.is);
            first = λ q' o' l. before s q' (omega arith) (here q' o') (f.first q' (here q' o') l);
          },
        );
  }
    where
      here : (q : Question) → Over M.shape E.states q → Over M.shape (length cs) q
      here q o = subst (λ (n : ℕ). Over M.shape n q) e o

      before : (s : ℕ) (q : Question) → s ≤ length cs → Over M.shape (length cs) q → Known cs s (ask M (code_at cs) q) → answer E q < s
      before s q h o (i, l, z) =
          let w = cells q o in
          let same : answer E q ≡ i = up.apart (answer E q) i w.0 (omega arith) (w.1 ∙ sym z) in
          omega arith

  -- the table that looks each answer up
  abbrev pub looked_up : Table
  looked_up = record {
    states = length cs;
    final = λ s. M.final (code_at cs s);
    leaf_cell = λ a m. find (code_at cs) (length cs) (M.leaf_step a m);
    inner_cell = λ a m x y. find (code_at cs) (length cs) (M.inner_step a m (code_at cs x) (code_at cs y));
  }

  pub looked_up_explored : ((q : Question) → Over M.shape (length cs) q → place M.shape q < p) → Explored M (code_at cs) looked_up
  looked_up_explored all = explored looked_up refl (λ q o. there q (up.asked q o (all q o)))
    where
      answer_is : (q : Question) → find (code_at cs) (length cs) (ask M (code_at cs) q) ≡ answer looked_up q
      answer_is (at_leaf a m) = refl
      answer_is (at_inner a m x y) = refl

      there : (q : Question) → Known cs (length cs) (ask M (code_at cs) q) → (answer looked_up q < length cs) × (code_at cs (answer looked_up q) ≡ ask M (code_at cs) q)
      there q (i, l, z) =
          let e : i ≡ answer looked_up q = sym (find_is (code_at cs) (length cs) up.apart i l) ∙ (ap (find (code_at cs) (length cs)) z ∙ answer_is q) in
          (subst (λ (n : ℕ). n < length cs) e l, ap (code_at cs) (sym e) ∙ z)
