-- Marks with one bit put.
use Rattle.std.proofs.Common.{◌≡◌, ℕ, suc, ◌+◌, ◌-◌, ◌*◌, ◌/◌, ◌%◌, ◌^◌, ◌<◌, ◌≤◌, Bool, true, false, cond, eqb, ◌≢◌, ◌⊎◌, sym, refl, ap, ◌∙◌, inl, inr, mul-le-mul_right, div-lt_iff_lt-mul, arith, pow_pos, shr-shr}
use native.Mathlib.Nat.{add-div_right, lt-div-mul-add, div-eq_of_lt}
use Rattle.std.proofs.lemmas.Bool.{cases_order, cases_lt}
use Rattle.trees.specs.Nodes.{bit, put_bit}
use Rattle.trees.proofs.Bits.{pow_apart, bit_high}

-- a bit that is not there can be added
add_same : (i m : ℕ) → bit i m ≡ false → bit i (m + 2 ^ i) ≡ true
unfolding bit
add_same i m e =
    let c : m / 2 ^ i % 2 ≡ 0 = grind arith in
    let d : (m / 2 ^ i + 1) % 2 ≡ 1 = omega arith in
    rw (add-div_right m (pow_pos i)) (ap (λ (n : ℕ). eqb n 1) d)

add_above : (i j m : ℕ) → i < j → bit i m ≡ false → bit j (m + 2 ^ i) ≡ bit j m
unfolding bit
add_above i j m h e =
    let c : m / 2 ^ i % 2 ≡ 0 = grind arith in
    let d : (m / 2 ^ i + 1) / 2 ≡ m / 2 ^ i / 2 = omega arith in
    let f : (m + 2 ^ i) / 2 ^ i / 2 ≡ m / 2 ^ i / 2 = ap (λ (n : ℕ). n / 2) (add-div_right m (pow_pos i)) ∙ d in
    let g : (m + 2 ^ i) / 2 ^ j ≡ m / 2 ^ j = split (m + 2 ^ i) ∙ (ap (λ (n : ℕ). n / 2 ^ (j - suc i)) f ∙ sym (split m)) in
    ap (λ (n : ℕ). eqb (n % 2) 1) g
  where
    split : (n : ℕ) → n / 2 ^ j ≡ n / 2 ^ i / 2 / 2 ^ (j - suc i)
    split n =
        let k : j ≡ i + 1 + (j - suc i) = omega arith in
        ap (λ (s : ℕ). n / 2 ^ s) k ∙ (sym (shr-shr n (i + 1) (j - suc i)) ∙ ap (λ (s : ℕ). s / 2 ^ (j - suc i)) (sym (shr-shr n i 1)))

add_other : (i j m : ℕ) → j ≢ i → bit i m ≡ false → bit j (m + 2 ^ i) ≡ bit j m
add_other i j m ne e = go (cases_order i j)
  where
    go : (i ≡ j) ⊎ ((i < j) ⊎ (j < i)) → bit j (m + 2 ^ i) ≡ bit j m
    go (inl h) = absurd (ne (sym h))
    go (inr (inl h)) = add_above i j m h e
    go (inr (inr h)) = bit_high j i m h

-- a bit that is there can be taken away
sub_fits : (i m : ℕ) → bit i m ≡ true → 2 ^ i ≤ m
unfolding bit
sub_fits i m e = go (cases_lt m (2 ^ i))
  where
    go : (m < 2 ^ i) ⊎ (2 ^ i ≤ m) → 2 ^ i ≤ m
    go (inl h) = absurd (let z : m / 2 ^ i ≡ 0 = div-eq_of_lt h in grind arith)
    go (inr h) = h

sub_same : (i m : ℕ) → bit i m ≡ true → bit i (m - 2 ^ i) ≡ false
unfolding bit
sub_same i m e =
    let h = sub_fits i m e in
    let k : m - 2 ^ i + 2 ^ i ≡ m = omega arith in
    let f : (m - 2 ^ i) / 2 ^ i + 1 ≡ m / 2 ^ i = sym (add-div_right (m - 2 ^ i) (pow_pos i)) ∙ ap (λ (n : ℕ). n / 2 ^ i) k in
    let c : m / 2 ^ i % 2 ≡ 1 = grind arith in
    let d : (m - 2 ^ i) / 2 ^ i % 2 ≡ 0 = omega arith in
    ap (λ (n : ℕ). eqb n 1) d

sub_other : (i j m : ℕ) → j ≢ i → bit i m ≡ true → bit j (m - 2 ^ i) ≡ bit j m
sub_other i j m ne e =
    let h = sub_fits i m e in
    let k : m - 2 ^ i + 2 ^ i ≡ m = omega arith in
    sym (add_other i j (m - 2 ^ i) ne (sub_same i m e)) ∙ ap (bit j) k

pub bit_put_same : (i : ℕ) (b : Bool) (m : ℕ) → bit i (put_bit i b m) ≡ b
unfolding put_bit
bit_put_same i true m = go (bit i m) refl
  where
    go : (c : Bool) → bit i m ≡ c → bit i (cond c m (m + 2 ^ i)) ≡ true
    go true e = e
    go false e = add_same i m e
bit_put_same i false m = go (bit i m) refl
  where
    go : (c : Bool) → bit i m ≡ c → bit i (cond c (m - 2 ^ i) m) ≡ false
    go true e = sub_same i m e
    go false e = e

pub bit_put_other : (i j : ℕ) (b : Bool) (m : ℕ) → j ≢ i → bit j (put_bit i b m) ≡ bit j m
unfolding put_bit
bit_put_other i j true m ne = go (bit i m) refl
  where
    go : (c : Bool) → bit i m ≡ c → bit j (cond c m (m + 2 ^ i)) ≡ bit j m
    go true e = refl
    go false e = add_other i j m ne e
bit_put_other i j false m ne = go (bit i m) refl
  where
    go : (c : Bool) → bit i m ≡ c → bit j (cond c (m - 2 ^ i) m) ≡ bit j m
    go true e = sub_other i j m ne e
    go false e = refl

add_lt : (i K m : ℕ) → i < K → m < 2 ^ K → bit i m ≡ false → m + 2 ^ i < 2 ^ K
unfolding bit
add_lt i K m h l e =
    let a : 2 ^ K ≡ 2 ^ (K - suc i) * 2 * 2 ^ i = pow_apart i K h in
    let b : m / 2 ^ i < 2 ^ (K - suc i) * 2 = (div-lt_iff_lt-mul (pow_pos i)).1 (omega arith) in
    let c : m / 2 ^ i % 2 ≡ 0 = grind arith in
    let d : m / 2 ^ i + 2 ≤ 2 ^ (K - suc i) * 2 = omega arith in
    let f : m < m / 2 ^ i * 2 ^ i + 2 ^ i = lt-div-mul-add (pow_pos i) in
    let g : (m / 2 ^ i + 2) * 2 ^ i ≤ 2 ^ (K - suc i) * 2 * 2 ^ i = mul-le-mul_right (2 ^ i) d in
    omega arith

pub put_bit_lt : (i : ℕ) (b : Bool) (K m : ℕ) → i < K → m < 2 ^ K → put_bit i b m < 2 ^ K
unfolding put_bit
put_bit_lt i true K m h l = go (bit i m) refl
  where
    go : (c : Bool) → bit i m ≡ c → cond c m (m + 2 ^ i) < 2 ^ K
    go true e = l
    go false e = add_lt i K m h l e
put_bit_lt i false K m h l = go (bit i m)
  where
    go : (c : Bool) → cond c (m - 2 ^ i) m < 2 ^ K
    go true = omega arith
    go false = l
