-- Where the standings of Left, Right and Below are first met, and which code each test finds, by computing every case.
use Rattle.std.proofs.Common.{◌≡◌, ℕ, ◌<◌, Bool, true, false, cond, not, ◌&&◌, ◌||◌, T, eqb, ltb, ◌⊎◌, sym, refl, ◌∙◌, inl, inr, arith}
use Rattle.std.proofs.lemmas.Bool.{lt-ltb, eq-eqb, eqb-false, or_left, or_right, and_from, not_from_false}
use Rattle.trees.specs.Nodes.{bit}
use Rattle.automata.specs.declared.standing.Standing.{Standing}
use Rattle.automata.specs.declared.standing.Standing.TheVariants.{Neither, Waiting}
use Rattle.automata.specs.Atoms.{number, standing, one_if, Step, leaf_standing, left_step, right_step, below_step}
use Rattle.automata.specs.Numbering.{pair_place}
use Rattle.automata.proofs.Tests.{and_iff}
use Rattle.automata.proofs.Checks.{all_bools, all_below, same, at_bool, at_number, same_equal}
use Rattle.automata.proofs.Standings.{is_done, number_lt, number_done}

-- i's own node over two parts: s stands where the relation looks for j's node, on the left where `to_left`, and u beside it
abbrev pub under : Step → Bool → Standing → Standing → Standing
under step to_left s u = step true false (cond to_left s u) (cond to_left u s)

-- the place of the pair of "j waits where it is looked for" and "nothing"
abbrev pub done_place : Bool → Bool → ℕ
done_place to_left b = pair_place (cond to_left (number b Waiting) 0) (cond to_left 0 (number b Waiting))

-- at an earlier place, or at the same under a node that is not i's
abbrev sooner : ℕ → ℕ → Bool → Bool
sooner p q c = ltb p q || (not c && eqb p q)

sooner_in : (p q : ℕ) (c : Bool) → (p < q) ⊎ ((p ≡ q) × (c ≡ false)) → sooner p q c ≡ true
sooner_in p q c (inl h) = or_left (ltb p q) _ (lt-ltb p q h)
sooner_in p q c (inr h) = or_right (ltb p q) _ (and_from (not c) _ (not_from_false c h.1) (eq-eqb p q h.0))

pub codes_told : Step → Bool → Bool
codes_told step to_left = all_bools λ b. all_below 4 λ x.
    same (is_done (under step to_left (standing b x) Neither)) (eqb x (number b Waiting))
    && same (is_done (under step to_left Waiting (standing b x))) (eqb x 0)

pub done_late : Step → Bool → Bool
done_late step to_left = all_bools λ b. all_below 4 λ x. all_below 4 λ y. all_bools λ c. all_bools λ d.
    same (is_done (step c d (standing b x) (standing b y)) && sooner (pair_place x y) (done_place to_left b) c) false

-- what the three relations share
pub record Sided (step : Step) (to_left : Bool) : Type 0 where
  pub told : T (codes_told step to_left)
  pub late : T (done_late step to_left)

pub left_sided : Sided left_step true
unfolding codes_told done_late all_bools all_below same
left_sided = record { told = tt; late = tt }

pub right_sided : Sided right_step false
unfolding codes_told done_late all_bools all_below same
right_sided = record { told = tt; late = tt }

pub below_sided : Sided below_step false
unfolding codes_told done_late all_bools all_below same
below_sided = record { told = tt; late = tt }

module _ {step : Step} {to_left : Bool} (ok : Sided step to_left) (b : Bool) where
  both_told : (x : ℕ) → x < 4
      → T (same (is_done (under step to_left (standing b x) Neither)) (eqb x (number b Waiting))) × T (same (is_done (under step to_left Waiting (standing b x))) (eqb x 0))
  unfolding codes_told
  both_told x h = (and_iff (same (is_done (under step to_left (standing b x) Neither)) (eqb x (number b Waiting))) _).0 (at_number 4 _ (at_bool _ ok.told b) x h)

  pub told_wait : (x : ℕ) → x < 4 → is_done (under step to_left (standing b x) Neither) ≡ eqb x (number b Waiting)
  told_wait x h = same_equal _ _ (both_told x h).0

  pub told_none : (x : ℕ) → x < 4 → is_done (under step to_left Waiting (standing b x)) ≡ eqb x 0
  told_none x h = same_equal _ _ (both_told x h).1

  late_at : (x y : ℕ) (c d : Bool) → x < 4 → y < 4
      → (is_done (step c d (standing b x) (standing b y)) && sooner (pair_place x y) (done_place to_left b) c) ≡ false
  unfolding done_late
  late_at x y c d h k = same_equal _ _ (at_bool _ (at_bool _ (at_number 4 _ (at_number 4 _ (at_bool _ ok.late b) x h) y k) c) d)

  pub undone_before : (x y : ℕ) (c d : Bool) → x < 4 → y < 4 → (pair_place x y < done_place to_left b) ⊎ ((pair_place x y ≡ done_place to_left b) × (c ≡ false))
      → is_done (step c d (standing b x) (standing b y)) ≡ false
  undone_before x y c d h k e =
      first (is_done (step c d (standing b x) (standing b y))) _ (sooner_in (pair_place x y) (done_place to_left b) c e) (late_at x y c d h k)
    where
      first : (r u : Bool) → u ≡ true → (r && u) ≡ false → r ≡ false
      first true u p z = sym p ∙ z
      first false u p z = refl

-- the code of what is not done, and of what is
pub undone_lt : (b : Bool) (s : Standing) → is_done s ≡ false → number b s < 3
undone_lt b s e = let ne = eqb-false (number b s) 3 (number_done b s ∙ e) in omega (arith, number_lt b s)

-- a leaf by its bits in the track whose lone mark is met first, and in the other
module _ (i j m : ℕ) where
  pub leaf_undone : (b : Bool) → number b (leaf_standing (bit i m) (bit j m)) < 3
  leaf_undone b = undone_lt b _ (never (bit i m) (bit j m))
    where
      never : (x y : Bool) → is_done (leaf_standing x y) ≡ false
      never false false = refl
      never false true = refl
      never true false = refl
      never true true = refl

  pub leaf_low : (b : Bool) → bit (cond b j i) m ≡ false → number b (leaf_standing (bit i m) (bit j m)) ≡ one_if (bit (cond b i j) m)
  leaf_low true e = rw e (go (bit i m))
    where
      go : (x : Bool) → number true (leaf_standing x false) ≡ one_if x
      go true = refl
      go false = refl
  leaf_low false e = rw e (go (bit j m))
    where
      go : (x : Bool) → number false (leaf_standing false x) ≡ one_if x
      go true = refl
      go false = refl

  pub leaf_high : (b : Bool) → bit (cond b i j) m ≡ false → bit (cond b j i) m ≡ true → number b (leaf_standing (bit i m) (bit j m)) ≡ 2
  leaf_high true e f = rw (e, f)
  leaf_high false e f = rw (e, f)
