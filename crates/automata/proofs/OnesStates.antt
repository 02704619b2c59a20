-- The codes of Left's, Right's and Below's automata are their states.
use Rattle.std.proofs.Common.{◌≡◌, ℕ, zero, suc, ◌^◌, ◌<◌, Bool, true, false, cond, not, eqb, ltb, ◌≢◌, ◌⊎◌, sym, refl, ap, ◌∙◌, subst, inl, inr, arith, pow_pos}
use lib.Pow.{pow-lt}
use Rattle.std.proofs.lemmas.Bool.{cases_order, and_parts, eq-eqb, eqb-true, ne_eqb, lt-ltb, le-ltb}
use Rattle.trees.specs.declared.shape.Shape.{Shape}
use Rattle.trees.specs.Shapes.{Limited, InnerLabel, Marks}
use Rattle.trees.specs.Trees.{Tree, leaf, Shaped}
use Rattle.trees.specs.Nodes.{bit}
use Rattle.automata.specs.Automata.{Automaton, code, Context, ContextShaped, hole, in_left, in_right, code_in}
use Rattle.automata.specs.declared.standing.Standing.{Standing}
use Rattle.automata.specs.declared.standing.Standing.TheVariants.{Waiting, Dead}
use Rattle.automata.specs.Atoms.{number, standing, one_if, Step, leaf_standing, standings_automaton, ones_automaton}
use Rattle.automata.specs.Numbering.{Question, at_leaf, at_inner, answer, Over, place, pair_place, FirstMet, own_table, CodesAreStates}
use Rattle.trees.proofs.Bits.{bit_small, bit_same, bit_apart}
use Rattle.automata.proofs.Guards.{guard_leaf, guard_inner, guard_final}
use Rattle.automata.proofs.Tallies.{one_if_le}
use Rattle.automata.proofs.Standings.{number_back, number_lt, is_done, number_done}
use Rattle.automata.proofs.Ones.{ones_lawful}
use Rattle.automata.proofs.Places.{leaf_before, leaf_order, inner_order}
use Rattle.automata.proofs.StandingPlaces.{under, done_place, Sided, told_wait, told_none, undone_before, undone_lt, leaf_undone, leaf_low, leaf_high}
use Rattle.automata.proofs.States.{has_leaf, first_inner, no_marks, Test, codes_are_states, zero_met, one_state}

-- b says that i's lone mark is met before j's
module _ {step : Step} {to_left : Bool} (side : Sided step to_left) (sh : Shape) (ok : Limited sh) (b : Bool) (i j : ℕ) (hi : i < sh.tracks) (hj : j < sh.tracks)
    (order : cond b i j < cond b j i) where
  abbrev M : Automaton
  M = standings_automaton false b step sh i j

  abbrev low : ℕ
  low = cond b i j

  abbrev high : ℕ
  high = cond b j i

  apart : j ≢ i
  apart e = go b order
    where
      go : (b : Bool) → cond b i j < cond b j i → ⊥
      go true h = omega arith
      go false h = omega arith

  marks_low : Marks sh (2 ^ low)
  marks_low = go b
    where
      go : (c : Bool) → Marks sh (2 ^ cond c i j)
      go true = pow-lt hi
      go false = pow-lt hj

  marks_high : Marks sh (2 ^ high)
  marks_high = go b
    where
      go : (c : Bool) → Marks sh (2 ^ cond c j i)
      go true = pow-lt hj
      go false = pow-lt hi

  low_high : 2 ^ low < 2 ^ high
  low_high = pow-lt order

  leaf_is : (a m : ℕ) → a < sh.leaves → Marks sh m → M.leaf_step a m ≡ number b (leaf_standing (bit i m) (bit j m))
  leaf_is a m h k = guard_leaf sh a m _ h k

  inner_is : (a m x y : ℕ) → InnerLabel sh a → Marks sh m → x < 4 → y < 4
      → M.inner_step a m x y ≡ number b (step (bit i m) (bit j m) (standing b x) (standing b y))
  inner_is a m x y h k p q = guard_inner sh 4 a m x y _ h k p q

  final_is : (x : ℕ) → x < 4 → M.final x ≡ eqb x 3
  final_is x h = guard_final 4 x _ h

  -- leaves: nothing below the low mark, only the first code below the high mark
  below_high : (a m : ℕ) → a < sh.leaves → Marks sh m → m < 2 ^ high → M.leaf_step a m ≡ one_if (bit low m)
  below_high a m h k l = leaf_is a m h k ∙ leaf_low i j m b (bit_small high m l)

  below_low : (a m : ℕ) → a < sh.leaves → Marks sh m → m < 2 ^ low → M.leaf_step a m ≡ 0
  below_low a m h k l = below_high a m h k (omega (arith, low_high)) ∙ ap one_if (bit_small low m l)

  leaf_0 : M.leaf_step 0 0 ≡ 0
  leaf_0 = below_low 0 0 (has_leaf sh ok) (no_marks sh) (pow_pos low)

  leaf_1 : M.leaf_step 0 (2 ^ low) ≡ 1
  leaf_1 = below_high 0 (2 ^ low) (has_leaf sh ok) marks_low low_high ∙ ap one_if (bit_same low)

  leaf_2 : M.leaf_step 0 (2 ^ high) ≡ 2
  leaf_2 = leaf_is 0 (2 ^ high) (has_leaf sh ok) marks_high ∙ leaf_high i j (2 ^ high) b (bit_apart high low (λ e. absurd (omega (arith, order, e)))) (bit_same high)

  waiting : M.leaf_step 0 (2 ^ j) ≡ number b Waiting
  waiting = leaf_is 0 (2 ^ j) (has_leaf sh ok) (pow-lt hj) ∙ rw (bit_apart j i (λ e. apart (sym e)), bit_same j)

  -- i's own node over two parts
  abbrev above : ℕ → ℕ → ℕ
  above x y = M.inner_step sh.leaves (2 ^ i) x y

  over_final : (x u : ℕ) → x < 4 → u < 4 → M.final (above (cond to_left x u) (cond to_left u x)) ≡ is_done (under step to_left (standing b x) (standing b u))
  over_final x u h k = go to_left
    where
      at : (x y : ℕ) → x < 4 → y < 4 → M.final (above x y) ≡ is_done (step true false (standing b x) (standing b y))
      at x y h k =
          let s = step true false (standing b x) (standing b y) in
          let e : number b (step (bit i (2 ^ i)) (bit j (2 ^ i)) (standing b x) (standing b y)) ≡ number b s = rw (bit_same i, bit_apart i j apart) in
          ap M.final (inner_is sh.leaves (2 ^ i) x y (first_inner sh ok) (pow-lt hi) h k ∙ e) ∙ (final_is (number b s) (number_lt b s) ∙ number_done b s)

      go : (c : Bool) → M.final (above (cond c x u) (cond c u x)) ≡ is_done (under step c (standing b x) (standing b u))
      go true = at x u h k
      go false = at u x k h

  abbrev left_code : ℕ
  left_code = cond to_left (number b Waiting) 0

  abbrev right_code : ℕ
  right_code = cond to_left 0 (number b Waiting)

  inner_3 : above left_code right_code ≡ 3
  inner_3 =
      let W = number b Waiting in
      let e : M.final (above left_code right_code) ≡ true
      = over_final W 0 (number_lt b Waiting) (omega arith) ∙ (told_wait side b W (number_lt b Waiting) ∙ eq-eqb W W refl) in
      eqb-true _ 3 (and_parts (ltb (above left_code right_code) 4) _ e).1

  first_leaf : (k c : ℕ) → Marks sh k → ((a m : ℕ) → a < sh.leaves → Marks sh m → m < k → M.leaf_step a m < c)
      → (q : Question) → Over sh 4 q → place sh q < place sh (at_leaf 0 k) → answer (own_table M) q < c
  first_leaf k c g f (at_leaf a m) o l = go (leaf_order sh a m 0 k g l)
    where
      go : (a < 0) ⊎ ((a ≡ 0) × (m < k)) → M.leaf_step a m < c
      go (inl z) = absurd (omega arith)
      go (inr z) = f a m o.0 o.1 z.1
  first_leaf k c g f (at_inner a m x y) o l = absurd (omega (arith, l, leaf_before sh 0 k a m x y (has_leaf sh ok) g))

  first_3 : (q : Question) → Over sh 4 q → place sh q < place sh (at_inner sh.leaves (2 ^ i) left_code right_code) → answer (own_table M) q < 3
  first_3 (at_leaf a m) o l = rw (leaf_is a m o.0 o.1) (leaf_undone i j m b)
  first_3 (at_inner a m x y) o l =
      rw (inner_is a m x y o.0 o.1 o.2 o.3)
      (undone_lt b _ (undone_before side b x y (bit i m) (bit j m) o.2 o.3
      (go (inner_order sh a m x y sh.leaves (2 ^ i) left_code right_code o.0 (first_inner sh ok) (pow-lt hi) l))))
    where
      go : (pair_place x y < done_place to_left b) ⊎ ((pair_place x y ≡ done_place to_left b) × ((a < sh.leaves) ⊎ ((a ≡ sh.leaves) × (m < 2 ^ i))))
          → (pair_place x y < done_place to_left b) ⊎ ((pair_place x y ≡ done_place to_left b) × (bit i m ≡ false))
      go (inl z) = inl z
      go (inr (e, inl z)) = absurd (omega arith)
      go (inr (e, inr z)) = inr (e, bit_small i m z.1)

  codes_lt : (left_code < 3) × (right_code < 3)
  codes_lt = go to_left
    where
      go : (c : Bool) → (cond c (number b Waiting) 0 < 3) × (cond c 0 (number b Waiting) < 3)
      go true = (undone_lt b Waiting refl, omega arith)
      go false = (omega arith, undone_lt b Waiting refl)

  met : FirstMet sh (own_table M)
  met zero h = (at_leaf 0 0, zero_met M ok leaf_0)
  met (suc zero) h = (
    at_leaf 0 (2 ^ low),
    record {
      over = (has_leaf sh ok, marks_low);
      is = leaf_1;
      first = first_leaf (2 ^ low) 1 marks_low (λ a m h k l. omega (arith, below_low a m h k l));
    },
  )
  met (suc (suc zero)) h = (
    at_leaf 0 (2 ^ high),
    record {
      over = (has_leaf sh ok, marks_high);
      is = leaf_2;
      first = first_leaf (2 ^ high) 2 marks_high (λ a m h k l. omega (arith, below_high a m h k l, one_if_le (bit low m)));
    },
  )
  met (suc (suc (suc zero))) h = (
    at_inner sh.leaves (2 ^ i) left_code right_code,
    record {
      over = (first_inner sh ok, pow-lt hi, codes_lt.0, codes_lt.1);
      is = inner_3;
      first = first_3;
    },
  )
  met (suc (suc (suc (suc n)))) h = absurd (omega arith)

  -- the open place under i's own node, on the left where c, with t beside it
  abbrev gap : Bool → Tree → Context
  gap true t = in_left sh.leaves (2 ^ i) hole t
  gap false t = in_right sh.leaves (2 ^ i) t hole

  gap_shaped : (c : Bool) (t : Tree) → Shaped sh t → ContextShaped sh (gap c t)
  gap_shaped true t h = (first_inner sh ok, pow-lt hi, tt, h)
  gap_shaped false t h = (first_inner sh ok, pow-lt hi, h, tt)

  gap_code : (c : Bool) (t : Tree) (y : ℕ) → code_in M (gap c t) y ≡ above (cond c y (code M t)) (cond c (code M t) y)
  gap_code true t y = refl
  gap_code false t y = refl

  not_left : (x y : ℕ) → above (cond (not to_left) x y) (cond (not to_left) y x) ≡ above (cond to_left y x) (cond to_left x y)
  not_left x y = go to_left
    where
      go : (c : Bool) → above (cond (not c) x y) (cond (not c) y x) ≡ above (cond c y x) (cond c x y)
      go true = refl
      go false = refl

  test_none : Test M 0
  test_none = record {
    context = gap (not to_left) (leaf 0 (2 ^ j));
    shaped = gap_shaped (not to_left) (leaf 0 (2 ^ j)) (has_leaf sh ok, pow-lt hj);
    tells = λ y h.
        ap M.final (gap_code (not to_left) (leaf 0 (2 ^ j)) y
        ∙ (ap (λ (c : ℕ). above (cond (not to_left) y c) (cond (not to_left) c y)) waiting ∙ not_left y (number b Waiting)))
        ∙ (over_final (number b Waiting) y (number_lt b Waiting) h ∙ (ap (λ (s : Standing). is_done (under step to_left s (standing b y))) (number_back b Waiting) ∙ told_none side b y h));
  }

  test_wait : Test M (number b Waiting)
  test_wait = record {
    context = gap to_left (leaf 0 0);
    shaped = gap_shaped to_left (leaf 0 0) (has_leaf sh ok, no_marks sh);
    tells = λ y h.
        ap M.final (gap_code to_left (leaf 0 0) y ∙ ap (λ (c : ℕ). above (cond to_left y c) (cond to_left c y)) leaf_0)
        ∙ (over_final y 0 h (omega arith) ∙ told_wait side b y h);
  }

  test_done : Test M 3
  test_done = record { context = hole; shaped = tt; tells = final_is }

  test : (x : ℕ) → x < 4 → x ≢ number b Dead → Test M x
  test x h ne = go (kinds b x h ne)
    where
      kinds : (b : Bool) (x : ℕ) → x < 4 → x ≢ number b Dead → (x ≡ 0) ⊎ ((x ≡ number b Waiting) ⊎ (x ≡ 3))
      kinds b zero h ne = inl refl
      kinds true (suc zero) h ne = absurd (ne refl)
      kinds false (suc zero) h ne = inr (inl refl)
      kinds true (suc (suc zero)) h ne = inr (inl refl)
      kinds false (suc (suc zero)) h ne = absurd (ne refl)
      kinds b (suc (suc (suc n))) h ne = inr (inr (omega arith))

      go : (x ≡ 0) ⊎ ((x ≡ number b Waiting) ⊎ (x ≡ 3)) → Test M x
      go (inl e) = subst (Test M) (sym e) test_none
      go (inr (inl e)) = subst (Test M) (sym e) test_wait
      go (inr (inr e)) = subst (Test M) (sym e) test_done

  apart_states : CodesAreStates M
  apart_states = codes_are_states M (number b Dead) met test

pub ones_states : {step : Step} {to_left : Bool} → Sided step to_left → (sh : Shape) → Limited sh → (i j : ℕ) → i < sh.tracks → j < sh.tracks
    → CodesAreStates (ones_automaton step sh i j)
ones_states {step} {to_left} side sh ok i j hi hj = go (cases_order i j)
  where
    at : (same b : Bool) → eqb i j ≡ same → ltb i j ≡ b → CodesAreStates (standings_automaton same b step sh i j) → CodesAreStates (ones_automaton step sh i j)
    at same b e f w =
        subst (λ (c : Bool). CodesAreStates (standings_automaton c (ltb i j) step sh i j)) (sym e)
        (subst (λ (c : Bool). CodesAreStates (standings_automaton same c step sh i j)) (sym f) w)

    go : (i ≡ j) ⊎ ((i < j) ⊎ (j < i)) → CodesAreStates (ones_automaton step sh i j)
    go (inl e) = one_state (ones_automaton step sh i j) (ones_lawful step sh i j) ok (ap (λ (c : Bool). cond c 1 4) (eq-eqb i j e))
    go (inr (inl h)) = at false true (ne_eqb i j (λ e. absurd (omega arith))) (lt-ltb i j h) (apart_states side sh ok true i j hi hj h)
    go (inr (inr h)) = at false false (ne_eqb i j (λ e. absurd (omega arith))) (le-ltb i j (omega arith)) (apart_states side sh ok false i j hi hj h)
