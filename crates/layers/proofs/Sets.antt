-- Sets of numbers as one number: a number is the sum over its bits, a union by its bits, and a set of two.
use Rattle.std.proofs.Common.{◌≡◌, ℕ, zero, suc, ◌+◌, ◌-◌, ◌/◌, ◌%◌, ◌^◌, ◌<◌, ◌≤◌, max, Bool, true, false, cond, ◌||◌, eqb, ◌⊎◌, sym, ap, ◌∙◌, ap₂, inl, inr, mod-lt, arith}
use lib.Bits.{bit_or, or_lt, or_shr, or_step}
use lib.Pow.{pow-lt}
use Rattle.std.proofs.lemmas.Bool.{cases_lt}
use Rattle.trees.specs.Nodes.{bit}
use Rattle.trees.proofs.Bits.{bit_high, bit_top, bit_small, bit_same, bit_apart}
use Rattle.automata.specs.Layers.{sum_of}
use Rattle.layers.specs.Sets.{one_of}

-- a number whose bits below c are P, and that has no others, is the sum over P
pub sum_is : (P : ℕ → Bool) (c n : ℕ) → n < 2 ^ c → ((k : ℕ) → k < c → bit k n ≡ P k) → n ≡ sum_of P c
unfolding sum_of
sum_is P zero n h e = omega arith
sum_is P (suc c) n h e = go (sum_is P c) (cases_lt n (2 ^ c))
  where
    go : ((m : ℕ) → m < 2 ^ c → ((k : ℕ) → k < c → bit k m ≡ P k) → m ≡ sum_of P c) → (n < 2 ^ c) ⊎ (2 ^ c ≤ n)
        → n ≡ sum_of P c + cond (P c) (2 ^ c) 0
    go ih (inl l) =
        ih n l (λ k q. e k (omega arith)) ∙ (let out : P c ≡ false = sym (e c (omega arith)) ∙ bit_small c n l in grind arith)
    go ih (inr l) =
        let s : ℕ = n - 2 ^ c in
        let small : s < 2 ^ c = omega arith in
        let back : s + 2 ^ c ≡ n = omega arith in
        let low : s ≡ sum_of P c = ih s small (λ k q. sym (bit_high k c s q) ∙ (ap (bit k) back ∙ e k (omega arith))) in
        sym back ∙ (ap (λ (m : ℕ). m + 2 ^ c) low ∙ (let in_it : P c ≡ true = sym (e c (omega arith)) ∙ (ap (bit c) (sym back) ∙ bit_top c s small) in grind arith))

-- a union, bit by bit
either_digit : (p q : ℕ) → p < 2 → q < 2 → eqb (max p q) 1 ≡ (eqb p 1 || eqb q 1)
either_digit p q h k = grind arith

or_odd : (a b : ℕ) → bit_or a b % 2 ≡ max (a % 2) (b % 2)
or_odd a b = let e = or_step a b in omega arith

pub bit_of_or : (k a b : ℕ) → bit k (bit_or a b) ≡ (bit k a || bit k b)
unfolding bit
bit_of_or k a b =
    ap (λ (n : ℕ). eqb (n % 2) 1) (or_shr a b k)
    ∙ (ap (λ (n : ℕ). eqb n 1) (or_odd (a / 2 ^ k) (b / 2 ^ k))
    ∙ either_digit (a / 2 ^ k % 2) (b / 2 ^ k % 2) (mod-lt (a / 2 ^ k) (omega arith)) (mod-lt (b / 2 ^ k) (omega arith)))

bit_one : (k p : ℕ) → bit k (2 ^ p) ≡ eqb k p
bit_one k p = grind (arith, bit_same, bit_apart)

pub two_are : (c p q x y r : ℕ) → p < c → q < c → x ≡ p → y ≡ q → r ≡ bit_or (2 ^ x) (2 ^ y) → r ≡ sum_of (one_of p q) c
two_are c p q x y r h l e d f =
    f ∙ (ap₂ (λ (m n : ℕ). bit_or (2 ^ m) (2 ^ n)) e d
    ∙ sum_is (one_of p q) c (bit_or (2 ^ p) (2 ^ q)) (or_lt c (2 ^ p) (2 ^ q) (pow-lt h) (pow-lt l))
    (λ k _. bit_of_or k (2 ^ p) (2 ^ q) ∙ ap₂ ◌||◌ (bit_one k p) (bit_one k q)))
