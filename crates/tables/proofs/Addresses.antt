-- Every byte of a slot has an address.
use Rattle.std.proofs.Common.{◌≡◌, ℕ, zero, suc, ◌+◌, ◌-◌, ◌*◌, ◌/◌, ◌%◌, ◌^◌, ◌<◌, ◌≤◌, ◌⊎◌, sym, ap, ◌∙◌, subst, inl, inr, arith}
use native.Mathlib.Nat.{mod-add-div'}
use Rattle.std.proofs.lemmas.Nat.{div_below, mod_below}
use Rattle.std.proofs.lemmas.Bool.{cases_lt}
use Rattle.trees.specs.declared.shape.Shape.{Shape}
use Rattle.trees.specs.Shapes.{LeafLabel, InnerLabel, Marks}
use Rattle.tables.specs.Images.{width, leaf_address, inner_address}

-- what the byte at i says
pub data Addressed (sh : Shape) (N : ℕ) : ℕ → Type 0 where
  at_states : Addressed sh N 0
  at_final : (s : ℕ) → s < N → Addressed sh N (1 + s)
  at_leaf_cell : (a m : ℕ) → LeafLabel sh a → Marks sh m → Addressed sh N (leaf_address sh N a m)
  at_inner_cell : (a m x y : ℕ) → InnerLabel sh a → Marks sh m → x < N → y < N → Addressed sh N (inner_address sh N a m x y)

-- a number below m × c as two digits
record Digits (n m c : ℕ) : Type 0 where
  high : ℕ
  low : ℕ
  high_lt : high < m
  low_lt : low < c
  is : n ≡ high * c + low

digits : (n m c : ℕ) → n < m * c → Digits n m c
digits n m zero h = absurd (omega arith)
digits n m (suc c) h = record {
  high = n / suc c;
  low = n % suc c;
  high_lt = div_below n (suc c) m (omega arith) h;
  low_lt = mod_below n (suc c) (omega arith);
  is = omega (arith, mod-add-div' n (suc c));
}

-- an inner address from its digits
joined : (F W N j q r b m x y : ℕ) → j ≡ q * N + y → q ≡ r * N + x → r ≡ b * W + m → ((F + b - F) * W + m) * (N * N) + x * N + y ≡ j
joined F W N j q r b m x y e f g =
    let z : (F + b - F) * W + m ≡ r = ap (λ (n : ℕ). n * W + m) (omega arith) ∙ sym g in
    let w : r * (N * N) + x * N + y ≡ (r * N + x) * N + y = omega arith in
    ap (λ (n : ℕ). n * (N * N) + x * N + y) z ∙ (w ∙ (ap (λ (n : ℕ). n * N + y) (sym f) ∙ sym e))

module _ (sh : Shape) (N : ℕ) where
  leaf_addressed : (j : ℕ) → j < sh.leaves * 2 ^ sh.tracks → Addressed sh N (1 + N + j)
  leaf_addressed j h =
      let d = digits j sh.leaves (2 ^ sh.tracks) h in
      subst (λ (i : ℕ). Addressed sh N (1 + N + i)) (sym d.is) (at_leaf_cell d.high d.low d.high_lt d.low_lt)

  inner_addressed : (j : ℕ) → j < sh.inners * 2 ^ sh.tracks * N * N → Addressed sh N (1 + N + sh.leaves * 2 ^ sh.tracks + j)
  inner_addressed j h =
      let d = digits j (sh.inners * 2 ^ sh.tracks * N) N h in
      let e = digits d.high (sh.inners * 2 ^ sh.tracks) N d.high_lt in
      let f = digits e.high sh.inners (2 ^ sh.tracks) e.high_lt in
      subst (λ (i : ℕ). Addressed sh N (1 + N + sh.leaves * 2 ^ sh.tracks + i))
      (joined sh.leaves (2 ^ sh.tracks) N j d.high e.high f.high f.low e.low d.low d.is e.is f.is)
      (at_inner_cell (sh.leaves + f.high) f.low e.low d.low (omega (arith, f.high_lt), omega (arith, f.high_lt)) f.low_lt e.low_lt d.low_lt)

  pub addressed : (i : ℕ) → i < width sh N → Addressed sh N i
  addressed zero h = at_states
  addressed (suc i) h = go (cases_lt i N) (cases_lt i (N + sh.leaves * 2 ^ sh.tracks))
    where
      go : (i < N) ⊎ (N ≤ i) → (i < N + sh.leaves * 2 ^ sh.tracks) ⊎ (N + sh.leaves * 2 ^ sh.tracks ≤ i) → Addressed sh N (suc i)
      go (inl l) d = let z : 1 + i ≡ suc i = omega arith in subst (Addressed sh N) z (at_final i l)
      go (inr l) (inl k) =
          let z : 1 + N + (i - N) ≡ suc i = omega arith in
          subst (Addressed sh N) z (leaf_addressed (i - N) (omega arith))
      go (inr l) (inr k) =
          let z : 1 + N + sh.leaves * 2 ^ sh.tracks + (i - N - sh.leaves * 2 ^ sh.tracks) ≡ suc i = omega arith in
          subst (Addressed sh N) z (inner_addressed (i - N - sh.leaves * 2 ^ sh.tracks) (omega arith))
