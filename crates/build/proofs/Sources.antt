-- The cells of first indices, which stand for those of the states.
use Rattle.std.proofs.Common.{◌≡◌, ℕ, ◌+◌, ◌-◌, ◌*◌, ◌/◌, ◌%◌, ◌^◌, ◌<◌, ◌≤◌, Bool, true, false, cond, ◌&&◌, ltb, List, length, get_or, sym, refl, ap, ◌∙◌, mul-le-mul_right, mul_assoc, add-mul, mul-le-mul, arith}
use native.Mathlib.Nat.{div-div-eq-div-mul}
use Rattle.std.proofs.lemmas.Nat.{div-add-mod', div_below}
use Rattle.std.proofs.lemmas.Bool.{ltb-true, and_parts}
use Rattle.trees.specs.Shapes.{InnerLabel, Marks}
use Rattle.automata.specs.Numbering.{at_inner}
use Rattle.tables.specs.Images.{leaf_rows, inner_rows}
use Rattle.build.specs.Refinement.{class_at, Indexed}
use Rattle.build.specs.Imaging.{Firsts, of_states, source_at, inner_byte}
use Rattle.slots.specs.declared.layout.Layout.{Layout}
use Rattle.tables.proofs.Questions.{address_lt}
use Rattle.build.proofs.Turns.{row_marks, row_inner}
use Rattle.build.proofs.Firsts.{first_ge}

both : (a b c d : ℕ) → ltb a b && ltb c d ≡ true → (a < b) × (c < d)
both a b c d e = let p = and_parts (ltb a b) (ltb c d) e in (ltb-true a b p.0, ltb-true c d p.1)

-- the three digits of a place
digits : (N j : ℕ) → j / (N * N) * (N * N) + j / N % N * N + j % N ≡ j
digits N j =
    let a = div-add-mod' j N in
    let b = div-add-mod' (j / N) N in
    let c = div-div-eq-div-mul j N N in
    let d : (j / N / N * N + j / N % N) * N ≡ j / N / N * (N * N) + j / N % N * N = add-mul (j / N / N * N) (j / N % N) N ∙ ap (λ (z : ℕ). z + j / N % N * N) (mul_assoc (j / N / N) N N) in
    let e : j / N / N * (N * N) ≡ j / (N * N) * (N * N) = ap (λ (z : ℕ). z * (N * N)) c in
    let f : (j / N / N * N + j / N % N) * N ≡ j / N * N = ap (λ (z : ℕ). z * N) b in
    omega (arith, a, d, e, f)

pub square_pos : (N : ℕ) → 1 ≤ N → 0 < N * N
square_pos N h = let z : 1 * 1 ≤ N * N = mul-le-mul h h in omega (arith, z)

module _ (l : Layout) (n k : ℕ) (cells cls firsts : List ℕ) (ix : Indexed l n cells) (fi : Firsts cls n k firsts) (j : ℕ)
    (hj : j < inner_rows l.shape * (l.most * l.most)) (of : of_states l.most k j ≡ true) where
  abbrev N : ℕ
  N = l.most

  abbrev W : ℕ
  W = 2 ^ l.shape.tracks

  hx : j / N % N < k
  hx = (both _ _ _ _ of).0

  hy : j % N < k
  hy = (both _ _ _ _ of).1

  row_in : j / (N * N) < inner_rows l.shape
  row_in = div_below j (N * N) (inner_rows l.shape) (square_pos N l.within.some) hj

  label_in : InnerLabel l.shape (l.shape.leaves + j / (N * N) / W)
  label_in = row_inner l.shape (j / (N * N)) (j / (N * N) / W) (j / (N * N) % W) refl refl row_in

  marks_in : Marks l.shape (j / (N * N) % W)
  marks_in = row_marks l.shape (j / (N * N)) (j / (N * N) / W) (j / (N * N) % W) refl refl

  pub source_lt : source_at l firsts j < length cells
  source_lt =
      let z = address_lt l.shape l.most (at_inner (l.shape.leaves + j / (N * N) / W) (j / (N * N) % W) (get_or firsts (j / N % N) 0) (get_or firsts (j % N) 0))
      (label_in, marks_in, omega (arith, fi.within (j / N % N) hx, ix.room), omega (arith, fi.within (j % N) hy, ix.room)) in
      omega (arith, z, ix.lent)

  pub source_index : get_or cells (source_at l firsts j) 0 < n
  source_index = ix.inside _ _ (get_or firsts (j / N % N) 0) (get_or firsts (j % N) 0) label_in marks_in (fi.within (j / N % N) hx) (fi.within (j % N) hy)

  row_again : (l.shape.leaves + j / (N * N) / W - l.shape.leaves) * W + j / (N * N) % W ≡ j / (N * N)
  row_again =
      let f : l.shape.leaves + j / (N * N) / W - l.shape.leaves ≡ j / (N * N) / W = omega arith in
      ap (λ (b : ℕ). b * W + j / (N * N) % W) f ∙ div-add-mod' (j / (N * N)) W

  pub source_ge : 1 + l.most + leaf_rows l.shape + j ≤ source_at l firsts j
  source_ge =
      let a = first_ge cls n k firsts fi (j / N % N) hx in
      let b = first_ge cls n k firsts fi (j % N) hy in
      let c : j / N % N * N ≤ get_or firsts (j / N % N) 0 * N = mul-le-mul_right N a in
      let r : ((l.shape.leaves + j / (N * N) / W - l.shape.leaves) * W + j / (N * N) % W) * (N * N) ≡ j / (N * N) * (N * N) = ap (λ (r : ℕ). r * (N * N)) row_again in
      omega (arith, digits N j, b, c, r)

pub byte_of_states : (l : Layout) (k : ℕ) (cells cls firsts now : List ℕ) (j v from : ℕ) → of_states l.most k j ≡ true → from ≡ source_at l firsts j → get_or now from 0 ≡ get_or cells from 0
    → v ≡ class_at cls (get_or now from 0) → v ≡ inner_byte l k cells cls firsts j
byte_of_states l k cells cls firsts now j v from of e same is =
    is ∙ (ap (class_at cls) (same ∙ ap (λ (i : ℕ). get_or cells i 0) e)
    ∙ sym (ap (λ (b : Bool). cond b (class_at cls (get_or cells (source_at l firsts j) 0)) 0) of))

pub byte_of_none : (l : Layout) (k : ℕ) (cells cls firsts : List ℕ) (j v : ℕ) → of_states l.most k j ≡ false → v ≡ 0 → v ≡ inner_byte l k cells cls firsts j
byte_of_none l k cells cls firsts j v of is = is ∙ sym (ap (λ (b : Bool). cond b (class_at cls (get_or cells (source_at l firsts j) 0)) 0) of)
