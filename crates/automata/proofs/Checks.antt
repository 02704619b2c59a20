-- A rule checked by computing it at every value. The words stay shut in a statement, so that each use finds the rest of the check by itself.
use Rattle.std.proofs.Common.{◌≡◌, ℕ, zero, suc, ◌<◌, Bool, true, false, not, ◌&&◌, T, refl, subst, arith}
use native.Mathlib.Decide.{dec_lt}
use Rattle.automata.proofs.Tests.{and_iff}

unfoldable pub all_bools : (Bool → Bool) → Bool
all_bools f = f false && f true

unfoldable pub all_below : ℕ → (ℕ → Bool) → Bool
all_below zero f = true
all_below (suc n) f = all_below n f && f n

unfoldable pub same : Bool → Bool → Bool
same true b = b
same false b = not b

pub at_bool : (f : Bool → Bool) → T (all_bools f) → (b : Bool) → T (f b)
unfolding all_bools
at_bool f h false = ((and_iff (f false) (f true)).0 h).0
at_bool f h true = ((and_iff (f false) (f true)).0 h).1

pub at_number : (n : ℕ) (f : ℕ → Bool) → T (all_below n f) → (k : ℕ) → k < n → T (f k)
unfolding all_below
at_number zero f h k l = absurd (omega arith)
at_number (suc n) f h k l = go (at_number n f ((and_iff (all_below n f) (f n)).0 h).0 k) (dec_lt k n)
  where
    go : (k < n → T (f k)) → Dec (k < n) → T (f k)
    go ih (yes z) = ih z
    go ih (no z) = let e : n ≡ k = omega arith in subst (λ (x : ℕ). T (f x)) e ((and_iff (all_below n f) (f n)).0 h).1

pub same_equal : (a b : Bool) → T (same a b) → a ≡ b
unfolding same
same_equal true true h = refl
same_equal true false h = elim h [ ]
same_equal false true h = elim h [ ]
same_equal false false h = refl
