-- The least member of a set, and the set without it.
use Rattle.std.proofs.Common.{◌≡◌, ℕ, zero, suc, ◌+◌, ◌-◌, ◌*◌, ◌/◌, ◌%◌, ◌^◌, ◌<◌, ◌≤◌, true, false, ◌⊎◌, sym, refl, ap, ◌∙◌, inl, inr, div-one, arith, pow_pos, shr-shr}
use lib.Count.{under, count_trailing_zeros}
use Rattle.std.proofs.lemmas.Bool.{cases_eq, both_ways}
use Rattle.trees.specs.Nodes.{bit, put_bit}
use Rattle.trees.proofs.Bits.{bit_small}
use Rattle.trees.proofs.PutBits.{bit_put_same, bit_put_other}
use Rattle.layers.specs.Sets.{Took}

-- the lowest set digit stands above the zeros at the end
lowest : (k n : ℕ) → 0 < n → n < 2 ^ k → n / 2 ^ count_trailing_zeros k n % 2 ≡ 1
unfolding count_trailing_zeros
lowest zero n h l = absurd (omega arith)
lowest (suc k) n h l = go (lowest k (n / 2)) (n % 2) refl
  where
    go : (0 < n / 2 → n / 2 < 2 ^ k → n / 2 / 2 ^ count_trailing_zeros k (n / 2) % 2 ≡ 1) → (d : ℕ) → n % 2 ≡ d → n / 2 ^ under d (count_trailing_zeros k (n / 2)) % 2 ≡ 1
    go ih zero e =
        let t = count_trailing_zeros k (n / 2) in
        let one : suc t ≡ 1 + t = omega arith in
        ap (λ (j : ℕ). n / 2 ^ j % 2) one
        ∙ (ap (λ (m : ℕ). m % 2) (sym (shr-shr n 1 t)) ∙ ih (omega arith) (omega arith))
    go ih (suc d) e = ap (λ (m : ℕ). m % 2) (div-one n) ∙ omega arith

least_member : (k n : ℕ) → 0 < n → n < 2 ^ k → bit (count_trailing_zeros k n) n ≡ true
unfolding bit
least_member k n h l = let d = lowest k n h l in grind arith

pub member_fits : (x X : ℕ) → bit x X ≡ true → 2 ^ x ≤ X
member_fits x X e = grind (arith, bit_small)

taken_out : (x X : ℕ) → bit x X ≡ true → put_bit x false X ≡ X - 2 ^ x
unfolding put_bit
taken_out x X e = grind arith

pub took : (x X : ℕ) → bit x X ≡ true → Took X x (X - 2 ^ x)
took x X e = record {
  member = e;
  others = λ k m. others k m (cases_eq k x);
  only = λ k m. only k m (cases_eq k x);
  fewer = let p = member_fits x X e in let q = pow_pos x in omega arith;
}
  where
    same : (k : ℕ) → (k ≡ x → ⊥) → bit k (X - 2 ^ x) ≡ bit k X
    same k ne = grind (arith, taken_out x X e, bit_put_other)

    others : (k : ℕ) → bit k X ≡ true → (k ≡ x) ⊎ (k ≡ x → ⊥) → (k ≡ x) ⊎ (bit k (X - 2 ^ x) ≡ true)
    others k m (inl p) = inl p
    others k m (inr ne) = inr (same k ne ∙ m)

    gone : (k : ℕ) → k ≡ x → bit k (X - 2 ^ x) ≡ false
    gone k p = grind (arith, taken_out x X e, bit_put_same)

    only : (k : ℕ) → bit k (X - 2 ^ x) ≡ true → (k ≡ x) ⊎ (k ≡ x → ⊥) → bit k X ≡ true
    only k m (inl p) = absurd (both_ways (bit k (X - 2 ^ x)) (gone k p) m)
    only k m (inr ne) = sym (same k ne) ∙ m

-- the least member of a set of 64, as a shift
pub record Least (n x : ℕ) : Type 0 where
  pub shifted : 1 * 2 ^ x % 2 ^ 64 ≡ 2 ^ x
  pub there : bit x n ≡ true
  pub fits : 2 ^ x ≤ n

pub least : (n : ℕ) → (n ≡ 0 → ⊥) → n < 2 ^ 64 → Least n (count_trailing_zeros 64 n)
least n some l =
    let here : bit (count_trailing_zeros 64 n) n ≡ true = least_member 64 n (omega arith) l in
    let room : 2 ^ count_trailing_zeros 64 n ≤ n = member_fits _ n here in
    record { shifted = omega arith; there = here; fits = room }
