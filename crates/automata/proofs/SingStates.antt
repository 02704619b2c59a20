-- The codes of Sing's automaton are its states.
use Rattle.std.proofs.Common.{◌≡◌, ℕ, zero, suc, ◌+◌, ◌^◌, ◌<◌, ◌≤◌, min, eqb, ◌≢◌, ◌⊎◌, refl, ap, ◌∙◌, inl, inr, arith, pow_pos}
use lib.Pow.{pow-lt}
use Rattle.trees.specs.declared.shape.Shape.{Shape}
use Rattle.trees.specs.Shapes.{Limited, Marks}
use Rattle.trees.specs.Trees.{leaf}
use Rattle.trees.specs.Nodes.{bit}
use Rattle.automata.specs.Automata.{Automaton, hole, in_left, code_in}
use Rattle.automata.specs.Atoms.{one_if, sing_automaton}
use Rattle.automata.specs.Numbering.{Question, at_leaf, at_inner, answer, Over, place, pair_place, FirstMet, own_table, CodesAreStates}
use Rattle.trees.proofs.Bits.{bit_small, bit_same}
use Rattle.automata.proofs.Guards.{guard_final}
use Rattle.automata.proofs.Tallies.{one_if_le}
use Rattle.automata.proofs.Sings.{sing_leaf, sing_inner}
use Rattle.automata.proofs.PairPlaces.{pair_place_inj}
use Rattle.automata.proofs.Places.{leaf_before, leaf_order, inner_order}
use Rattle.automata.proofs.States.{has_leaf, first_inner, no_marks, Test, codes_are_states, zero_met}

module _ (sh : Shape) (ok : Limited sh) (i : ℕ) (hi : i < sh.tracks) where
  abbrev M : Automaton
  M = sing_automaton sh i

  unmarked : (m : ℕ) → m < 2 ^ i → one_if (bit i m) ≡ 0
  unmarked m h = ap one_if (bit_small i m h)

  marked : one_if (bit i (2 ^ i)) ≡ 1
  marked = ap one_if (bit_same i)

  marks_i : Marks sh (2 ^ i)
  marks_i = pow-lt hi

  leaf_0 : M.leaf_step 0 0 ≡ 0
  leaf_0 = sing_leaf sh i 0 0 (has_leaf sh ok) (no_marks sh) ∙ unmarked 0 (pow_pos i)

  leaf_1 : M.leaf_step 0 (2 ^ i) ≡ 1
  leaf_1 = sing_leaf sh i 0 (2 ^ i) (has_leaf sh ok) marks_i ∙ marked

  inner_2 : M.inner_step sh.leaves (2 ^ i) 0 1 ≡ 2
  inner_2 = sing_inner sh i sh.leaves (2 ^ i) 0 1 (first_inner sh ok) marks_i (omega arith) (omega arith) ∙ ap (λ (x : ℕ). min 2 (x + (0 + 1))) marked

  first_1 : (q : Question) → Over sh 3 q → place sh q < place sh (at_leaf 0 (2 ^ i)) → answer (own_table M) q < 1
  first_1 (at_leaf a m) o l = go (leaf_order sh a m 0 (2 ^ i) marks_i l)
    where
      go : (a < 0) ⊎ ((a ≡ 0) × (m < 2 ^ i)) → M.leaf_step a m < 1
      go (inl z) = absurd (omega arith)
      go (inr z) = omega (arith, sing_leaf sh i a m o.0 o.1, unmarked m z.1)
  first_1 (at_inner a m x y) o l = absurd (omega (arith, l, leaf_before sh 0 (2 ^ i) a m x y (has_leaf sh ok) marks_i))

  first_2 : (q : Question) → Over sh 3 q → place sh q < place sh (at_inner sh.leaves (2 ^ i) 0 1) → answer (own_table M) q < 2
  first_2 (at_leaf a m) o l = omega (arith, sing_leaf sh i a m o.0 o.1, one_if_le (bit i m))
  first_2 (at_inner a m x y) o l =
      omega (
        arith,
        sing_inner sh i a m x y o.0 o.1 o.2 o.3,
        few (inner_order sh a m x y sh.leaves (2 ^ i) 0 1 o.0 (first_inner sh ok) marks_i l),
      )
    where
      marks_few : (a < sh.leaves) ⊎ ((a ≡ sh.leaves) × (m < 2 ^ i)) → one_if (bit i m) ≡ 0
      marks_few (inl z) = absurd (omega arith)
      marks_few (inr z) = unmarked m z.1

      few : (pair_place x y < pair_place 0 1) ⊎ ((pair_place x y ≡ pair_place 0 1) × ((a < sh.leaves) ⊎ ((a ≡ sh.leaves) × (m < 2 ^ i)))) → one_if (bit i m) + (x + y) ≤ 1
      few (inl z) = let w = pair_place_inj x y 0 0 (let e : pair_place x y ≡ 0 = omega arith in e) in omega (arith, w.0, w.1, one_if_le (bit i m))
      few (inr z) = let w = pair_place_inj x y 0 1 z.0 in omega (arith, w.0, w.1, marks_few z.1)

  met : FirstMet sh (own_table M)
  met zero h = (at_leaf 0 0, zero_met M ok leaf_0)
  met (suc zero) h = (at_leaf 0 (2 ^ i), record { over = (has_leaf sh ok, marks_i); is = leaf_1; first = first_1 })
  met (suc (suc zero)) h =
      (at_inner sh.leaves (2 ^ i) 0 1, record { over = (first_inner sh ok, marks_i, omega arith, omega arith); is = inner_2; first = first_2 })
  met (suc (suc (suc n))) h = absurd (omega arith)

  final_is : (x : ℕ) → x < 3 → M.final x ≡ eqb x 1
  final_is x h = guard_final 3 x _ h

  -- one node more makes exactly one of none
  more_is : (y : ℕ) → y < 3 → M.final (code_in M (in_left sh.leaves (2 ^ i) hole (leaf 0 0)) y) ≡ eqb y 0
  more_is y h =
      ap M.final (ap (M.inner_step sh.leaves (2 ^ i) y) leaf_0
      ∙ (sing_inner sh i sh.leaves (2 ^ i) y 0 (first_inner sh ok) marks_i h (omega arith) ∙ ap (λ (z : ℕ). min 2 (z + (y + 0))) marked))
      ∙ counted y h
    where
      counted : (y : ℕ) → y < 3 → M.final (min 2 (1 + (y + 0))) ≡ eqb y 0
      counted zero h = refl
      counted (suc zero) h = refl
      counted (suc (suc zero)) h = refl
      counted (suc (suc (suc n))) h = absurd (omega arith)

  test : (x : ℕ) → x < 3 → x ≢ 2 → Test M x
  test zero h ne = record {
    context = in_left sh.leaves (2 ^ i) hole (leaf 0 0);
    shaped = (first_inner sh ok, marks_i, tt, (has_leaf sh ok, no_marks sh));
    tells = more_is;
  }
  test (suc zero) h ne = record { context = hole; shaped = tt; tells = final_is }
  test (suc (suc n)) h ne = absurd (ne (omega arith))

  pub sing_states : CodesAreStates M
  sing_states = codes_are_states M 2 met test
