-- What a test of all numbers below n, or the first that passes one, tells.
use Rattle.std.proofs.Common.{ℕ, ◌<◌, Bool, true, false, length, MatchBool, MatchOption, Option, None, Some, ◌≤◌, subst, sym, ◌∙◌, zero-add, arith}
use Rattle.std.specs.List.{AllWithin, HoldsAt, range_with_len}
use Rattle.std.proofs.lemmas.List.FromFn.{length-range_with_len, get_or-range_with_len}
use Rattle.build.specs.Refinement.{Tells}

pub all_tells : (n : ℕ) (P : ℕ → Type 0) (r : Bool)
    → MatchBool r (AllWithin P (range_with_len 0 n) 0 (length (range_with_len 0 n)))
    ((k : ℕ) × (k < length (range_with_len 0 n)) × HoldsAt (λ z. P z → ⊥) (range_with_len 0 n) k)
    → Tells r ((z : ℕ) → z < n → P z)
all_tells n P true h = λ z l. subst P (get_or-range_with_len 0 n z 0 l ∙ zero-add z) (h z 0 (omega arith) (omega (arith, length-range_with_len 0 n)))
all_tells n P false h =
    let low : h.0 < n = omega (arith, h.1, length-range_with_len 0 n) in
    λ all. h.2 0 (subst P (sym (get_or-range_with_len 0 n h.0 0 low ∙ zero-add h.0)) (all h.0 low))

pub first_tells : (n : ℕ) (P : ℕ → Type 0) (r : Option ℕ)
    → MatchOption r ((k : ℕ) → 0 ≤ k → k < n → P k → ⊥) (λ i. (0 ≤ i) × (i < n) × P i × ((k : ℕ) → 0 ≤ k → k < i → P k → ⊥))
    → MatchOption r ((y : ℕ) → y < n → P y → ⊥) (λ y. (y < n) × P y)
first_tells n P None h = λ y l. h y (omega arith) l
first_tells n P (Some i) h = (h.1, h.2)
