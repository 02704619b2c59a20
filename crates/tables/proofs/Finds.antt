-- The index of a code among codes that differ.
use Rattle.std.proofs.Common.{◌≡◌, ℕ, zero, suc, ◌<◌, ◌≤◌, Bool, true, false, cond, eqb, ◌⊎◌, refl, ap, inl, inr, arith}
use Rattle.std.proofs.lemmas.Bool.{cases_lt, eqb-true, eqb-false}

abbrev pub find : (ℕ → ℕ) → ℕ → ℕ → ℕ
find codes zero x = 0
find codes (suc n) x = cond (eqb (codes n) x) n (find codes n x)

pub find_is : (codes : ℕ → ℕ) (n : ℕ) → ((x y : ℕ) → x < n → y < n → codes x ≡ codes y → x ≡ y) → (i : ℕ) → i < n → find codes n (codes i) ≡ i
find_is codes zero apart i h = absurd (omega arith)
find_is codes (suc n) apart i h =
    go (find_is codes n (λ x y p q. apart x y (omega arith) (omega arith)) i) (eqb (codes n) (codes i)) (eqb-true (codes n) (codes i)) (eqb-false (codes n) (codes i))
  where
    go : (i < n → find codes n (codes i) ≡ i) → (b : Bool) → (b ≡ true → codes n ≡ codes i) → (b ≡ false → codes n ≡ codes i → ⊥)
        → cond b n (find codes n (codes i)) ≡ i
    go ih true yes' no' = apart n i (omega arith) h (yes' refl)
    go ih false yes' no' = pick (cases_lt i n)
      where
        pick : (i < n) ⊎ (n ≤ i) → find codes n (codes i) ≡ i
        pick (inl l) = ih l
        pick (inr l) = let e : n ≡ i = omega arith in absurd (no' refl (ap codes e))
