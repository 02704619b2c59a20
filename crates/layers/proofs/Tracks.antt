-- Marks at the two values of a track, by operations on bits.
use Rattle.std.proofs.Common.{◌≡◌, ℕ, ◌+◌, ◌-◌, ◌*◌, ◌/◌, ◌%◌, ◌^◌, true, false, sym, ap, ◌∙◌, arith, pow-add}
use lib.Bits.{bit_and, bit_or, bit_xor, and_high, or_add_and, xor_add_and}
use Rattle.trees.specs.Nodes.{bit, put_bit}
use Rattle.trees.proofs.PutBits.{bit_put_same}
use Rattle.layers.proofs.Least.{member_fits}

and_one : (n i : ℕ) → bit_and n (2 ^ i) ≡ (n / 2 ^ i % 2) * 2 ^ i
and_one n i =
    let p : 2 ^ (1 + i) - 2 ^ i ≡ 2 ^ i = omega (arith, pow-add 2 1 i) in
    ap (bit_and n) (sym p) ∙ and_high n 1 i

and_in : (n i : ℕ) → bit i n ≡ true → bit_and n (2 ^ i) ≡ 2 ^ i
unfolding bit
and_in n i e = grind (arith, and_one n i)

and_out : (n i : ℕ) → bit i n ≡ false → bit_and n (2 ^ i) ≡ 0
unfolding bit
and_out n i e = grind (arith, and_one n i)

pub present_is : (i m : ℕ) → bit_or m (2 ^ i) ≡ put_bit i true m
unfolding put_bit
present_is i m = grind (arith, or_add_and m (2 ^ i), and_in m i, and_out m i)

back : (i m : ℕ) → put_bit i true m - 2 ^ i ≡ put_bit i false m
unfolding put_bit
back i m = grind arith

pub absent_is : (i m : ℕ) → bit_xor (bit_or m (2 ^ i)) (2 ^ i) ≡ put_bit i false m
absent_is i m =
    let n : ℕ = bit_or m (2 ^ i) in
    let there : bit i n ≡ true = ap (bit i) (present_is i m) ∙ bit_put_same i true m in
    let less : bit_xor n (2 ^ i) ≡ n - 2 ^ i = omega (arith, xor_add_and n (2 ^ i), and_in n i there, member_fits i n there) in
    less ∙ (ap (λ (k : ℕ). k - 2 ^ i) (present_is i m) ∙ back i m)
