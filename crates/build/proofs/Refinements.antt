-- Rounds over the cells are rounds over the table that they hold.
use Rattle.std.proofs.Common.{◌≡◌, ℕ, ◌+◌, ◌-◌, ◌*◌, ◌/◌, ◌%◌, ◌^◌, ◌<◌, ◌≤◌, Bool, true, false, List, length, get_or, set, sym, refl, ap, ◌∙◌, subst, arith}
use lib.Arith.{digits_div, digits_mod, digits_lt}
use Rattle.std.proofs.lemmas.List.{get_or-set_same, get_or-set_other}
use Rattle.trees.specs.declared.shape.Shape.{Shape}
use Rattle.trees.specs.Shapes.{InnerLabel, Marks}
use Rattle.automata.specs.Automata.{Automaton}
use Rattle.automata.specs.Numbering.{at_inner}
use Rattle.tables.specs.Images.{inner_address, inner_rows}
use Rattle.tables.specs.Rounds.{Agree, Numbering}
use Rattle.tables.proofs.Numberings.{Equivalence}
use Rattle.build.specs.Discovery.{Ready, Discovered, index_table}
use Rattle.build.specs.Refinement.{class_at, step_at, Indexed, StepAgrees, StepsAgree, Agreed, Tells}
use Rattle.slots.specs.declared.layout.Layout.{Layout}
use Rattle.build.proofs.Turns.{row_marks, row_inner}

-- what agrees in every row agrees with every label and marks
rows_agree : (l : Layout) (n : ℕ) (cells cls : List ℕ) (x y : ℕ)
    → ((row : ℕ) → row < inner_rows l.shape → StepAgrees l n cells cls (l.shape.leaves + row / 2 ^ l.shape.tracks) (row % 2 ^ l.shape.tracks) x y)
    → StepsAgree l n cells cls x y
rows_agree l n cells cls x y rows a m ha hm =
    let nth : a - l.shape.leaves < l.shape.inners = omega (arith, ha) in
    let ea : l.shape.leaves + ((a - l.shape.leaves) * 2 ^ l.shape.tracks + m) / 2 ^ l.shape.tracks ≡ a
    = ap (λ (b : ℕ). l.shape.leaves + b) (digits_div (a - l.shape.leaves) hm) ∙ omega (arith, ha) in
    let em : ((a - l.shape.leaves) * 2 ^ l.shape.tracks + m) % 2 ^ l.shape.tracks ≡ m = digits_mod (a - l.shape.leaves) hm in
    subst (λ (b : ℕ). StepAgrees l n cells cls b m x y) ea
    (subst (λ (k : ℕ). StepAgrees l n cells cls (l.shape.leaves + ((a - l.shape.leaves) * 2 ^ l.shape.tracks + m) / 2 ^ l.shape.tracks) k x y) em
    (rows ((a - l.shape.leaves) * 2 ^ l.shape.tracks + m) (digits_lt nth hm)))

-- every row agrees exactly if every label and marks do
pub rows_tell : (l : Layout) (n : ℕ) (cells cls : List ℕ) (x y : ℕ) (r : Bool)
    → Tells r ((row : ℕ) → row < inner_rows l.shape → StepAgrees l n cells cls (l.shape.leaves + row / 2 ^ l.shape.tracks) (row % 2 ^ l.shape.tracks) x y)
    → Tells r (StepsAgree l n cells cls x y)
rows_tell l n cells cls x y true rows = rows_agree l n cells cls x y rows
rows_tell l n cells cls x y false rows = λ all. rows (λ row h. all _ _
    (row_inner l.shape row (row / 2 ^ l.shape.tracks) (row % 2 ^ l.shape.tracks) refl refl h) (row_marks l.shape row (row / 2 ^ l.shape.tracks) (row % 2 ^ l.shape.tracks) refl refl))

pub agreed_equivalence : (l : Layout) (n : ℕ) (cells cls : List ℕ) → Equivalence (Agreed l n cells cls)
agreed_equivalence l n cells cls = record {
  same = λ x. (refl, λ a m h k z i. (refl, refl));
  turn = λ x y p. (sym p.0, λ a m h k z i. (sym (p.1 a m h k z i).0, sym (p.1 a m h k z i).1));
  join = λ x y z p q. (p.0 ∙ q.0, λ a m h k w i. ((p.1 a m h k w i).0 ∙ (q.1 a m h k w i).0, (p.1 a m h k w i).1 ∙ (q.1 a m h k w i).1));
}

module _ (M : Automaton) (l : Layout) (lc lb : ℕ) (codes cells : List ℕ) (n : ℕ) (ready : Ready M l lc lb) (d : Discovered M l.most n codes cells) where
  step_is : (a m x y : ℕ) → step_at l cells a m x y ≡ (index_table M l.most n codes cells).inner_cell a m x y
  step_is a m x y = ap (λ (s : Shape). get_or cells (inner_address s l.most a m x y) 0) ready.shape

  label_is : (a : ℕ) → InnerLabel l.shape a → InnerLabel M.shape a
  label_is a h = subst (λ (s : Shape). InnerLabel s a) ready.shape h

  marks_is : (m : ℕ) → Marks l.shape m → Marks M.shape m
  marks_is m h = subst (λ (s : Shape). Marks s m) ready.shape h

  pub discovered_indexed : lb ≤ length cells → Indexed l n cells
  discovered_indexed lent = record {
    room = d.room;
    lent = omega (arith, ready.cells_lent);
    inside = λ a m x y h k hx hy. subst (λ (v : ℕ). v < n) (sym (step_is a m x y)) (d.all.inside (at_inner a m x y) (label_is a h, marks_is m k, hx, hy));
  }

  module _ (cls : List ℕ) where
    agreed_agree : (x y : ℕ) → Agreed l n cells cls x y → Agree M (index_table M l.most n codes cells) (class_at cls) x y
    agreed_agree x y p = record {
      here = p.0;
      left = λ a m z h k hz. ap (class_at cls) (sym (step_is a m x z)) ∙ ((p.1 a m (back_label a h) (back_marks m k) z hz).0 ∙ ap (class_at cls) (step_is a m y z));
      right = λ a m z h k hz. ap (class_at cls) (sym (step_is a m z x)) ∙ ((p.1 a m (back_label a h) (back_marks m k) z hz).1 ∙ ap (class_at cls) (step_is a m z y));
    }
      where
        back_label : (a : ℕ) → InnerLabel M.shape a → InnerLabel l.shape a
        back_label a h = subst (λ (s : Shape). InnerLabel s a) (sym ready.shape) h

        back_marks : (m : ℕ) → Marks M.shape m → Marks l.shape m
        back_marks m h = subst (λ (s : Shape). Marks s m) (sym ready.shape) h

    agree_agreed : (x y : ℕ) → Agree M (index_table M l.most n codes cells) (class_at cls) x y → Agreed l n cells cls x y
    agree_agreed x y p = (
      p.here,
      λ a m h k z hz. (
        ap (class_at cls) (step_is a m x z) ∙ (p.left a m z (label_is a h) (marks_is m k) hz ∙ ap (class_at cls) (sym (step_is a m y z))),
        ap (class_at cls) (step_is a m z x) ∙ (p.right a m z (label_is a h) (marks_is m k) hz ∙ ap (class_at cls) (sym (step_is a m z y))),
      ),
    )

    agreed_numbering : (f : ℕ → ℕ) (k : ℕ) → Numbering (Agreed l n cells cls) f n k → Numbering (Agree M (index_table M l.most n codes cells) (class_at cls)) f n k
    agreed_numbering f k nu = record {
      few = nu.few;
      below = nu.below;
      first = nu.first;
      same = λ x y hx hy. ((λ e. agreed_agree x y ((nu.same x y hx hy).0 e)), λ p. (nu.same x y hx hy).1 (agree_agreed x y p));
    }

    -- the classes after a round, which are kept as they are next
    pub round_numbering : (next now : List ℕ) (m k : ℕ) → m ≡ n → now ≡ next → Numbering (Agreed l m cells cls) (class_at next) m k
        → Numbering (Agree M (index_table M l.most n codes cells) (class_at cls)) (class_at now) n k
    round_numbering next now m k e f nu =
        agreed_numbering (class_at now) k (subst (λ (xs : List ℕ). Numbering (Agreed l n cells cls) (class_at xs) n k) (sym f)
        (subst (λ (i : ℕ). Numbering (Agreed l i cells cls) (class_at next) i k) e nu))

pub written_other : (xs ys : List ℕ) (i v : ℕ) → ys ≡ set xs i v → (x : ℕ) → x < i → class_at ys x ≡ class_at xs x
written_other xs ys i v e x h = ap (λ (zs : List ℕ). get_or zs x 0) e ∙ get_or-set_other xs i x v 0 (λ z. omega (arith, z, h))

pub written_same : (xs ys : List ℕ) (i v : ℕ) → ys ≡ set xs i v → i < length xs → class_at ys i ≡ v
written_same xs ys i v e h = ap (λ (zs : List ℕ). get_or zs i 0) e ∙ get_or-set_same xs i v 0 h
