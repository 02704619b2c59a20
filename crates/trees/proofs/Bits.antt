-- Bits of a number and of a power of 2.
use Rattle.std.proofs.Common.{◌≡◌, ℕ, suc, ◌+◌, ◌-◌, ◌*◌, ◌^◌, ◌<◌, ◌≤◌, true, false, ◌≢◌, ◌⊎◌, sym, ap, ◌∙◌, inl, inr, pow-suc, zero-add, arith, pow_pos, pow_mono, pow-add}
use native.Mathlib.Nat.{add-mul-div_right, add-mul-mod_self_right, div-eq_of_lt, add-div_right}
use lib.Pow.{pow-lt}
use Rattle.std.proofs.lemmas.Bool.{cases_order}
use Rattle.trees.specs.Nodes.{bit}

pub pow_apart : (k c : ℕ) → k < c → 2 ^ c ≡ 2 ^ (c - suc k) * 2 * 2 ^ k
pow_apart k c h =
    let n : c ≡ (c - suc k) + suc k = omega arith in
    ap (λ (j : ℕ). 2 ^ j) n ∙ (pow-add 2 (c - suc k) (suc k) ∙ rw pow-suc (omega arith))

-- a high power does not change a lower bit
pub bit_high : (k c s : ℕ) → k < c → bit k (s + 2 ^ c) ≡ bit k s
unfolding bit
bit_high k c s h = rw (pow_apart k c h, add-mul-div_right s (2 ^ (c - suc k) * 2) (pow_pos k), add-mul-mod_self_right)

pub bit_top : (c s : ℕ) → s < 2 ^ c → bit c (s + 2 ^ c) ≡ true
unfolding bit
bit_top c s h = rw (add-div_right s (pow_pos c), div-eq_of_lt h)

pub bit_small : (k s : ℕ) → s < 2 ^ k → bit k s ≡ false
unfolding bit
bit_small k s h = rw (div-eq_of_lt h)

pub bit_none : (k c s : ℕ) → c ≤ k → s < 2 ^ c → bit k s ≡ false
bit_none k c s h l = bit_small k s (let p : 2 ^ c ≤ 2 ^ k = pow_mono h in omega arith)

pub bit_same : (k : ℕ) → bit k (2 ^ k) ≡ true
bit_same k = ap (bit k) (sym (zero-add (2 ^ k))) ∙ bit_top k 0 (pow_pos k)

pub bit_zero : (k : ℕ) → bit k 0 ≡ false
bit_zero k = bit_small k 0 (pow_pos k)

pub bit_apart : (i j : ℕ) → j ≢ i → bit j (2 ^ i) ≡ false
bit_apart i j ne = go (cases_order i j)
  where
    go : (i ≡ j) ⊎ ((i < j) ⊎ (j < i)) → bit j (2 ^ i) ≡ false
    go (inl h) = absurd (ne (sym h))
    go (inr (inl h)) = bit_small j (2 ^ i) (pow-lt h)
    go (inr (inr h)) = ap (bit j) (sym (zero-add (2 ^ i))) ∙ (bit_high j i 0 h ∙ bit_zero j)
