-- Bytes taken one after another.
-- Words:
--   Takes took s t bs          whatever s had taken, t has taken that, and bs behind it
--   Counted m n bs             n counts on from m by the bytes, where the sum is below 2 ^ 64
--   Pasted i xs j ys bs        where the bytes have room from i on in xs, they end at j, and ys is xs with them there
--   placed bs xs               xs with bs at its front
--   Computes post of           a call at a byte answers what `of` says
use Rattle.std.specs.Prelude.{◌≡◌, ℕ, ◌+◌, ◌^◌, ◌<◌, ◌≤◌, List, ◌++◌, length, take, drop}

pub record Takes {S : Type 0} (took : S → S → List ℕ → Type 0) (s t : S) (bs : List ℕ) : Type 0 where
  pub on : (r : S) (cs : List ℕ) → took r s cs → took r t (cs ++ bs)

abbrev pub Counted : ℕ → ℕ → List ℕ → Type 0
Counted m n bs = m + length bs < 2 ^ 64 → n ≡ m + length bs

abbrev pub Pasted : ℕ → List ℕ → ℕ → List ℕ → List ℕ → Type 0
Pasted i xs j ys bs = i + length bs ≤ length xs → (j ≡ i + length bs) × (ys ≡ take i xs ++ (bs ++ drop (i + length bs) xs))

abbrev pub placed : List ℕ → List ℕ → List ℕ
placed bs xs = bs ++ drop (length bs) xs

abbrev pub Computes : (ℕ → ℕ → Type 0) → (ℕ → ℕ) → Type 0
Computes post of = (b n : ℕ) → b < 256 → post b n → n ≡ of b
