-- What a standing counts: of a part, its nodes in i and in j, whether some i is related to some j, and whether its root is in j.
use Rattle.std.proofs.Common.{◌≡◌, ℕ, ◌+◌, ◌<◌, min, Bool, true, false, cond, not, ◌&&◌, ◌||◌, T, eqb, leb, sym, refl, ap, ◌∙◌, arith, eqb→eq}
use Rattle.automata.specs.declared.standing.Standing.{Standing}
use Rattle.automata.specs.declared.standing.Standing.TheVariants.{Neither, Waiting, Done, Dead}
use Rattle.automata.specs.Atoms.{number, standing, one_if, Step, leaf_standing, left_step, right_step, below_step}
use Rattle.automata.proofs.Tests.{and_iff}
use Rattle.automata.proofs.Checks.{all_bools, all_below, at_bool, at_number}

-- a standing's number tells the standing
pub number_back : (b : Bool) (s : Standing) → standing b (number b s) ≡ s
number_back true Neither = refl
number_back true Waiting = refl
number_back true Done = refl
number_back true Dead = refl
number_back false Neither = refl
number_back false Waiting = refl
number_back false Done = refl
number_back false Dead = refl

number_inj : (b : Bool) (s u : Standing) → number b s ≡ number b u → s ≡ u
number_inj b s u e = sym (number_back b s) ∙ (ap (standing b) e ∙ number_back b u)

pub number_lt : (b : Bool) (s : Standing) → number b s < 4
number_lt true Neither = omega arith
number_lt true Waiting = omega arith
number_lt true Done = omega arith
number_lt true Dead = omega arith
number_lt false Neither = omega arith
number_lt false Waiting = omega arith
number_lt false Done = omega arith
number_lt false Dead = omega arith

abbrev pub is_done : Standing → Bool
is_done Neither = false
is_done Waiting = false
is_done Done = true
is_done Dead = false

pub number_done : (b : Bool) (s : Standing) → eqb (number b s) 3 ≡ is_done s
number_done true Neither = refl
number_done true Waiting = refl
number_done true Done = refl
number_done true Dead = refl
number_done false Neither = refl
number_done false Waiting = refl
number_done false Done = refl
number_done false Dead = refl

-- whether the root, in i, has a j where the relation wants it: from the two parts' counts of j and roots in j
abbrev pub Meets : Type 0
Meets = ℕ → Bool → ℕ → Bool → Bool

abbrev pub meets_left : Meets
meets_left y r y' r' = r

abbrev pub meets_right : Meets
meets_right y r y' r' = r'

abbrev pub meets_below : Meets
meets_below y r y' r' = leb 1 (y + y')

-- the standing of a part with x nodes in i and y in j, where `deep` says that j's may wait below the root
abbrev pub stands : Bool → ℕ → ℕ → Bool → Bool → Standing
stands deep x y e r =
    cond (eqb x 0 && eqb y 0) Neither (cond (eqb x 0 && eqb y 1 && (r || deep)) Waiting (cond (eqb x 1 && eqb y 1 && e) Done Dead))

-- counts that a part can have
abbrev pub can : ℕ → ℕ → Bool → Bool → Bool
can x y e r = (not e || (leb 1 x && leb 1 y)) && (not r || leb 1 y)

-- a step of standings counts as the counts add up
counts_at : Step → Meets → Bool → ℕ → ℕ → Bool → Bool → ℕ → ℕ → Bool → Bool → Bool → Bool → Bool
counts_at step meets deep x y e r x' y' e' r' b c =
    not (can x y e r && can x' y' e' r')
    || eqb (number true (step b c (stands deep x y e r) (stands deep x' y' e' r')))
    (number true (stands deep (min 2 (one_if b + (x + x'))) (min 2 (one_if c + (y + y'))) ((b && meets y r y' r') || (e || e')) c))

pub all_count : Step → Meets → Bool → Bool
all_count step meets deep =
    all_below 3 λ x. all_below 3 λ y. all_bools λ e. all_bools λ r. all_below 3 λ x'. all_below 3 λ y'. all_bools λ e'. all_bools λ r'.
    all_bools λ b. all_bools λ c. counts_at step meets deep x y e r x' y' e' r' b c

pub left_counts : T (all_count left_step meets_left false)
unfolding all_count counts_at all_bools all_below
left_counts = tt

pub right_counts : T (all_count right_step meets_right false)
unfolding all_count counts_at all_bools all_below
right_counts = tt

pub below_counts : T (all_count below_step meets_below true)
unfolding all_count counts_at all_bools all_below
below_counts = tt

or_with : (a b : Bool) → T a → T (not a || b) → T b
or_with true b h k = k
or_with false b h k = elim h [ ]

module _ (step : Step) (meets : Meets) (deep : Bool) (x y : ℕ) (e r : Bool) (x' y' : ℕ) (e' r' b c : Bool) where
  abbrev joint : Standing
  joint = stands deep (min 2 (one_if b + (x + x'))) (min 2 (one_if c + (y + y'))) ((b && meets y r y' r') || (e || e')) c

  told : T (counts_at step meets deep x y e r x' y' e' r' b c) → T (can x y e r) → T (can x' y' e' r')
      → step b c (stands deep x y e r) (stands deep x' y' e' r') ≡ joint
  unfolding counts_at
  told z k k' = number_inj true _ _ (eqb→eq _ _ (or_with (can x y e r && can x' y' e' r') _ ((and_iff (can x y e r) (can x' y' e' r')).1 (k, k')) z))

  pub step_counts : T (all_count step meets deep) → x < 3 → y < 3 → x' < 3 → y' < 3 → T (can x y e r) → T (can x' y' e' r')
      → step b c (stands deep x y e r) (stands deep x' y' e' r') ≡ joint
  unfolding all_count
  step_counts ok hx hy hx' hy' =
      told (at_bool _ (at_bool _ (at_bool _ (at_bool _ (at_number 3 _ (at_number 3 _ (at_bool _ (at_bool _ (at_number 3 _ (at_number 3 _ ok x hx) y hy) e) r) x' hx') y' hy') e') r') b) c)

pub leaf_counts : (deep b c : Bool) → leaf_standing b c ≡ stands deep (one_if b) (one_if c) false c
leaf_counts deep false false = refl
leaf_counts true false true = refl
leaf_counts false false true = refl
leaf_counts deep true false = refl
leaf_counts deep true true = refl
