-- Codes found in order and merged by class give the automaton's table.
use Rattle.std.proofs.Common.{◌≡◌, ℕ, ◌<◌, ◌↔◌, sym, refl, ap, ◌∙◌, subst, ap₂}
use Rattle.trees.specs.Shapes.{InnerLabel, Marks}
use Rattle.automata.specs.Automata.{Automaton, Alike, hole}
use Rattle.automata.specs.Numbering.{Table, at_leaf, at_inner, Over}
use Rattle.tables.specs.Tables.{TableOf}
use Rattle.tables.specs.Exploring.{Explored}
use Rattle.tables.specs.Merging.{Merged, merged_table}
use Rattle.tables.proofs.Finds.{find, find_is}
use Rattle.tables.proofs.Founds.{found_reached, reached_found}
use Rattle.tables.proofs.MergedPlaces.{rep_alike, rep_step, merged_met}

module _ (M : Automaton) (codes : ℕ → ℕ) (E : Table) (ex : Explored M codes E) (k : ℕ) (class first : ℕ → ℕ) (mg : Merged M codes E k class first) where
  abbrev state : ℕ → ℕ
  state x = class (find codes E.states x)

  abbrev Found : ℕ → Type 0
  Found x = (i : ℕ) × (i < E.states) × (codes i ≡ x)

  state_is : (x i : ℕ) → i < E.states → codes i ≡ x → state x ≡ class i
  state_is x i h e = ap state (sym e) ∙ ap class (find_is codes E.states ex.apart i h)

  classes : (x y : ℕ) → Found x → Found y → (state x ≡ state y) ↔ Alike M x y
  classes x y (i, hi, ei) (j, hj, ej) =
      let sx = state_is x i hi ei in
      let sy = state_is y j hj ej in (
        (λ e. subst (λ (c : ℕ). Alike M c y) ei (subst (λ (c : ℕ). Alike M (codes i) c) ej ((mg.classes i j hi hj).0 (sym sx ∙ (e ∙ sy))))),
        λ al. sx ∙ ((mg.classes i j hi hj).1 (subst (λ (c : ℕ). Alike M c (codes j)) (sym ei) (subst (λ (c : ℕ). Alike M x c) (sym ej) al)) ∙ sym sy),
      )

  finals : (x : ℕ) → Found x → M.final (codes (first (state x))) ≡ M.final x
  finals x (i, hi, ei) =
      ap (λ (s : ℕ). M.final (codes (first s))) (state_is x i hi ei) ∙ (rep_alike M codes E ex k class first mg i hi hole tt ∙ ap M.final ei)

  inners : (a m x y : ℕ) → InnerLabel M.shape a → Marks M.shape m → Found x → Found y
      → class (E.inner_cell a m (first (state x)) (first (state y))) ≡ state (M.inner_step a m x y)
  inners a m x y h l (i, hi, ei) (j, hj, ej) =
      let o : Over M.shape E.states (at_inner a m i j) = (h, l, hi, hj) in
      ap₂ (λ (s u : ℕ). class (E.inner_cell a m (first s) (first u))) (state_is x i hi ei) (state_is y j hj ej)
      ∙ (rep_step M codes E ex k class first mg a m i j h l hi hj
      ∙ sym (state_is (M.inner_step a m x y) (E.inner_cell a m i j) (ex.inside (at_inner a m i j) o) (ex.is (at_inner a m i j) o ∙ ap₂ (M.inner_step a m) ei ej)))

  pub merged_table_of : TableOf M (merged_table M codes E k class first)
  merged_table_of = record {
    state = state;
    state_in = λ x r. let w = reached_found M codes E ex x r in subst (λ (s : ℕ). s < k) (sym (state_is x w.0 w.1 w.2)) (mg.class_in w.0 w.1);
    state_of = λ s h. (codes (first s), found_reached M codes E ex (first s) (mg.first_in s h), state_is (codes (first s)) (first s) (mg.first_in s h) refl ∙ mg.first_is s h);
    classes = λ x y rx ry. classes x y (reached_found M codes E ex x rx) (reached_found M codes E ex y ry);
    finals = λ x r. finals x (reached_found M codes E ex x r);
    leaves = λ a m h l. sym (state_is (M.leaf_step a m) (E.leaf_cell a m) (ex.inside (at_leaf a m) (h, l)) (ex.is (at_leaf a m) (h, l)));
    inners = λ a m x y h l rx ry. inners a m x y h l (reached_found M codes E ex x rx) (reached_found M codes E ex y ry);
    met = merged_met M codes E ex k class first mg;
  }
