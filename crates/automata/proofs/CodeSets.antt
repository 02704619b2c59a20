-- Sets of numbers as sums of powers of 2.
use Rattle.std.proofs.Common.{◌≡◌, ℕ, zero, suc, ◌+◌, ◌^◌, ◌<◌, Bool, true, false, cond, ◌||◌, T, sym, refl, ap, ◌∙◌, subst, add-zero, arith}
use native.Mathlib.Decide.{dec_lt}
use Rattle.trees.specs.Nodes.{bit}
use Rattle.trees.proofs.Bits.{bit_high, bit_top, bit_small}
use Rattle.automata.specs.Layers.{sum_of, any}

sum_step : (b : Bool) (s c : ℕ) → s < 2 ^ c → s + cond b (2 ^ c) 0 < 2 ^ suc c
sum_step true s c h = omega arith
sum_step false s c h = omega arith

pub sum_lt : (P : ℕ → Bool) (c : ℕ) → sum_of P c < 2 ^ c
unfolding sum_of
sum_lt P zero = omega arith
sum_lt P (suc c) = sum_step (P c) (sum_of P c) c (sum_lt P c)

bit_low : (b : Bool) (k c s : ℕ) → k < c → bit k (s + cond b (2 ^ c) 0) ≡ bit k s
bit_low true k c s h = bit_high k c s h
bit_low false k c s h = rw add-zero

bit_here : (b : Bool) (c s : ℕ) → s < 2 ^ c → bit c (s + cond b (2 ^ c) 0) ≡ b
bit_here true c s h = bit_top c s h
bit_here false c s h = rw add-zero (bit_small c s h)

pub bit_sum : (P : ℕ → Bool) (c k : ℕ) → k < c → bit k (sum_of P c) ≡ P k
unfolding sum_of
bit_sum P zero k h = absurd (omega arith)
bit_sum P (suc c) k h = go (bit_sum P c k) (dec_lt k c)
  where
    go : (k < c → bit k (sum_of P c) ≡ P k) → Dec (k < c) → bit k (sum_of P c + cond (P c) (2 ^ c) 0) ≡ P k
    go ih (yes l) = bit_low (P c) k c (sum_of P c) l ∙ ih l
    go ih (no n) =
        let e : k ≡ c = omega arith in
        rw e (bit_here (P c) c (sum_of P c) (sum_lt P c))

pub any_in : (c : ℕ) (P : ℕ → Bool) (x : ℕ) → x < c → T (P x) → T (any c P)
unfolding any
any_in zero P x h k = absurd (omega arith)
any_in (suc c) P x h k = go (any c P) (P c) (any_in c P x) (dec_lt x c) refl
  where
    go : (a b : Bool) → (x < c → T (P x) → T a) → Dec (x < c) → P c ≡ b → T (a || b)
    go true b ih d e = tt
    go false b ih (yes l) e = absurd (ih l k)
    go false b ih (no n) e = subst T (ap P (omega arith) ∙ e) k

pub any_of : (c : ℕ) (P : ℕ → Bool) → T (any c P) → (x : ℕ) × (x < c) × T (P x)
unfolding any
any_of zero P h = elim h [ ]
any_of (suc c) P h = go (any c P) (P c) (any_of c P) refl h
  where
    go : (a b : Bool) → (T a → (x : ℕ) × (x < c) × T (P x)) → P c ≡ b → T (a || b) → (x : ℕ) × (x < suc c) × T (P x)
    go true b ih e k = let r = ih tt in (r.0, omega arith, r.2)
    go false b ih e k = (c, omega arith, subst T (sym e) k)
