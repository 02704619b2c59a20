-- The codes of Sub's and Lab's automata are their states.
use Rattle.std.proofs.Common.{◌≡◌, ℕ, zero, suc, ◌+◌, ◌^◌, ◌<◌, ◌≤◌, min, Bool, true, false, cond, not, eqb, ◌≢◌, ◌⊎◌, sym, refl, ap, ◌∙◌, subst, inl, inr, arith, pow_pos}
use lib.Pow.{pow-lt}
use Rattle.std.proofs.lemmas.Bool.{cases_lt, cases_eq, and_left, and_right, eq-eqb, ne_eqb, eqb-false}
use Rattle.trees.specs.declared.shape.Shape.{Shape}
use Rattle.trees.specs.Shapes.{labels, Limited, Marks}
use Rattle.trees.specs.Nodes.{bit}
use Rattle.automata.specs.Automata.{Automaton, hole}
use Rattle.automata.specs.Atoms.{one_if, every_automaton, sub_bad, lab_bad, sub_automaton, lab_automaton}
use Rattle.automata.specs.Numbering.{Question, at_leaf, at_inner, answer, Over, place, pair_place, MetAt, FirstMet, own_table, CodesAreStates}
use Rattle.trees.proofs.Bits.{bit_small, bit_same, bit_apart}
use Rattle.automata.proofs.Guards.{guard_leaf, guard_inner, guard_final}
use Rattle.automata.proofs.Everies.{sub_lawful}
use Rattle.automata.proofs.PairPlaces.{pair_place_inj}
use Rattle.automata.proofs.Places.{leaf_before, leaf_order, inner_order}
use Rattle.automata.proofs.States.{has_leaf, first_inner, no_marks, Test, codes_are_states, zero_met, one_state}

-- b is the first label that can be bad, and is so first with the lone mark of i
pub record FirstBad (sh : Shape) (bad : ℕ → ℕ → Bool) (i b : ℕ) : Type 0 where
  pub known : b < labels sh
  pub unmarked : (a m : ℕ) → m < 2 ^ i → bad a m ≡ false
  pub before : (a m : ℕ) → a < b → bad a m ≡ false
  pub marked : bad b (2 ^ i) ≡ true

module _ (sh : Shape) (ok : Limited sh) (bad : ℕ → ℕ → Bool) (i b : ℕ) (hi : i < sh.tracks) (w : FirstBad sh bad i b) where
  abbrev M : Automaton
  M = every_automaton sh 2 bad

  marks_i : Marks sh (2 ^ i)
  marks_i = pow-lt hi

  leaf_is : (a m : ℕ) → a < sh.leaves → Marks sh m → M.leaf_step a m ≡ one_if (bad a m)
  leaf_is a m h k = guard_leaf sh a m _ h k

  inner_is : (a m x y : ℕ) → (sh.leaves ≤ a) × (a < labels sh) → Marks sh m → x < 2 → y < 2 → M.inner_step a m x y ≡ min 1 (one_if (bad a m) + (x + y))
  inner_is a m x y h k p q = guard_inner sh 2 a m x y _ h k p q

  -- a node before the first bad one
  fine : (a m : ℕ) → (a < b) ⊎ ((a ≡ b) × (m < 2 ^ i)) → one_if (bad a m) ≡ 0
  fine a m (inl z) = ap one_if (w.before a m z)
  fine a m (inr z) = ap one_if (w.unmarked a m z.1)

  -- the first bad node is a leaf, or an inner node over two leaves
  met_1 : (b < sh.leaves) ⊎ (sh.leaves ≤ b) → (q : Question) × MetAt sh (own_table M) 1 q
  met_1 (inl h) = (at_leaf b (2 ^ i), record { over = (h, marks_i); is = leaf_is b (2 ^ i) h marks_i ∙ ap one_if w.marked; first = first })
    where
      first : (q : Question) → Over sh 2 q → place sh q < place sh (at_leaf b (2 ^ i)) → answer (own_table M) q < 1
      first (at_leaf a m) o l = omega (arith, leaf_is a m o.0 o.1, fine a m (leaf_order sh a m b (2 ^ i) marks_i l))
      first (at_inner a m x y) o l = absurd (omega (arith, l, leaf_before sh b (2 ^ i) a m x y h marks_i))
  met_1 (inr h) = (
    at_inner b (2 ^ i) 0 0,
    record {
      over = ((h, w.known), marks_i, omega arith, omega arith);
      is = inner_is b (2 ^ i) 0 0 (h, w.known) marks_i (omega arith) (omega arith) ∙ ap (λ (c : Bool). min 1 (one_if c + (0 + 0))) w.marked;
      first = first;
    },
  )
    where
      first : (q : Question) → Over sh 2 q → place sh q < place sh (at_inner b (2 ^ i) 0 0) → answer (own_table M) q < 1
      first (at_leaf a m) o l = omega (arith, leaf_is a m o.0 o.1, fine a m (inl (omega arith)))
      first (at_inner a m x y) o l = go (inner_order sh a m x y b (2 ^ i) 0 0 o.0 (h, w.known) marks_i l)
        where
          go : (pair_place x y < pair_place 0 0) ⊎ ((pair_place x y ≡ pair_place 0 0) × ((a < b) ⊎ ((a ≡ b) × (m < 2 ^ i)))) → M.inner_step a m x y < 1
          go (inl z) = absurd (omega arith)
          go (inr z) =
              let d = pair_place_inj x y 0 0 z.0 in
              omega (arith, inner_is a m x y o.0 o.1 o.2 o.3, d.0, d.1, fine a m z.1)

  met : FirstMet sh (own_table M)
  met zero h = (at_leaf 0 0, zero_met M ok (leaf_is 0 0 (has_leaf sh ok) (no_marks sh) ∙ ap one_if (w.unmarked 0 0 (pow_pos i))))
  met (suc zero) h = met_1 (cases_lt b sh.leaves)
  met (suc (suc n)) h = absurd (omega arith)

  test : (x : ℕ) → x < 2 → x ≢ 1 → Test M x
  test zero h ne = record { context = hole; shaped = tt; tells = λ y k. guard_final 2 y _ k }
  test (suc n) h ne = absurd (ne (omega arith))

  every_states : CodesAreStates M
  every_states = codes_are_states M 1 met test

module _ (sh : Shape) (ok : Limited sh) where
  -- all labels but one are bad in i, so the first is 0, or 1 where 0 is the one: there are at least two labels
  pub lab_states : (i a : ℕ) → i < sh.tracks → CodesAreStates (lab_automaton sh i a)
  lab_states i a hi = go (cases_eq 0 a)
    where
      wrong : (b : ℕ) → (b ≡ a → ⊥) → lab_bad i a b (2 ^ i) ≡ true
      wrong b ne = rw (bit_same i, ne_eqb b a ne)

      right : (b m : ℕ) → b ≡ a → lab_bad i a b m ≡ false
      right b m e = and_right (bit i m) _ (ap not (eq-eqb b a e))

      go : (0 ≡ a) ⊎ (0 ≡ a → ⊥) → CodesAreStates (lab_automaton sh i a)
      go (inl e) = every_states sh ok (lab_bad i a) i 1 hi (record {
        known = omega (arith, has_leaf sh ok, first_inner sh ok);
        unmarked = λ b m h. and_left (bit i m) _ (bit_small i m h);
        before = λ b m h. right b m (omega arith);
        marked = wrong 1 (λ z. absurd (omega arith));
      })
      go (inr ne) = every_states sh ok (lab_bad i a) i 0 hi (record {
        known = omega (arith, has_leaf sh ok);
        unmarked = λ b m h. and_left (bit i m) _ (bit_small i m h);
        before = λ b m h. absurd (omega arith);
        marked = wrong 0 ne;
      })

  pub sub_states : (i j : ℕ) → i < sh.tracks → CodesAreStates (sub_automaton sh i j)
  sub_states i j hi = go (eqb i j) refl
    where
      go : (c : Bool) → eqb i j ≡ c → CodesAreStates (sub_automaton sh i j)
      go true e = one_state (sub_automaton sh i j) (sub_lawful sh i j) ok (ap (λ (c : Bool). cond c 1 2) e)
      go false e =
          subst (λ (c : Bool). CodesAreStates (every_automaton sh (cond c 1 2) (sub_bad i j))) (sym e)
          (every_states sh ok (sub_bad i j) i 0 hi (record {
            known = omega (arith, has_leaf sh ok);
            unmarked = λ b m h. and_left (bit i m) _ (bit_small i m h);
            before = λ b m h. absurd (omega arith);
            marked = rw (bit_same i, bit_apart i j (λ z. eqb-false i j e (sym z)));
          }))
