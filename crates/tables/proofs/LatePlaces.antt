-- Questions over one more number stand behind all over the numbers before.
use Rattle.std.proofs.Common.{ℕ, suc, ◌+◌, ◌-◌, ◌*◌, ◌^◌, ◌<◌, ◌≤◌, ◌⊎◌, inl, inr, mul-le-mul_right, mul-le-mul, arith}
use lib.Arith.{digits_lt}
use Rattle.std.proofs.lemmas.Bool.{cases_lt}
use Rattle.trees.specs.declared.shape.Shape.{Shape}
use Rattle.automata.specs.Numbering.{Question, at_leaf, at_inner, Over, place, pair_place}
use Rattle.automata.proofs.PairPlaces.{square_lt, Spot, Spotted, spotted}
use Rattle.automata.proofs.Places.{leaf_before}

pair_lt : (u v n : ℕ) → u < n → v < n → pair_place u v < n * n
pair_lt u v n h k = go (spotted u v)
  where
    go : Spotted u v → pair_place u v < n * n
    go w = omega (arith, square_lt w.greater n (below w.greater w.among w.spot))
      where
        below : (m d : ℕ) → Spot u v m d → m < n
        below m d (inl a) = omega arith
        below m d (inr a) = omega arith

pair_ge : (x y n : ℕ) → (n ≤ x) ⊎ (n ≤ y) → n * n ≤ pair_place x y
pair_ge x y n h = go (spotted x y)
  where
    above : (m d : ℕ) → Spot x y m d → (n ≤ x) ⊎ (n ≤ y) → n ≤ m
    above m d (inl a) (inl b) = omega arith
    above m d (inl a) (inr b) = omega arith
    above m d (inr a) (inl b) = omega arith
    above m d (inr a) (inr b) = omega arith

    go : Spotted x y → n * n ≤ pair_place x y
    go w =
        let z : n ≤ w.greater = above w.greater w.among w.spot h in
        let y : n * n ≤ w.greater * w.greater = mul-le-mul z z in
        omega (arith, y)

later : (sh : Shape) (b j u v a m x y : ℕ) → b - sh.leaves < sh.inners → j < 2 ^ sh.tracks → pair_place u v < pair_place x y
    → place sh (at_inner b j u v) < place sh (at_inner a m x y)
later sh b j u v a m x y hb hj l =
    let z : suc (pair_place u v) * sh.inners ≤ pair_place x y * sh.inners = mul-le-mul_right sh.inners l in
    let w : (pair_place u v * sh.inners + (b - sh.leaves) + 1) * 2 ^ sh.tracks ≤ (pair_place x y * sh.inners + (a - sh.leaves)) * 2 ^ sh.tracks
    = mul-le-mul_right (2 ^ sh.tracks) (omega (arith, z)) in
    omega (arith, w)

-- a question over one more number is over those before, or stands behind every q over those before
pub late : (sh : Shape) (n : ℕ) (q q' : Question) → Over sh n q → Over sh (suc n) q' → Over sh n q' ⊎ (place sh q < place sh q')
late sh n q (at_leaf a m) o p = inl p
late sh n (at_leaf b j) (at_inner a m x y) o p = inr (leaf_before sh b j a m x y o.0 o.1)
late sh n (at_inner b j u v) (at_inner a m x y) o p = go (cases_lt x n) (cases_lt y n)
  where
    far : (n ≤ x) ⊎ (n ≤ y) → place sh (at_inner b j u v) < place sh (at_inner a m x y)
    far h = later sh b j u v a m x y (omega arith) o.1 (omega (arith, pair_ge x y n h, pair_lt u v n o.2 o.3))

    go : (x < n) ⊎ (n ≤ x) → (y < n) ⊎ (n ≤ y) → Over sh n (at_inner a m x y) ⊎ (place sh (at_inner b j u v) < place sh (at_inner a m x y))
    go (inl h) (inl k) = inl (p.0, p.1, h, k)
    go (inl h) (inr k) = inr (far (inr k))
    go (inr h) d = inr (far (inl h))

-- the questions over n numbers have the places before this one
abbrev pub end_place : Shape → ℕ → ℕ
end_place sh n = sh.leaves * 2 ^ sh.tracks + n * n * sh.inners * 2 ^ sh.tracks

pub place_lt_end : (sh : Shape) (n : ℕ) (q : Question) → Over sh n q → place sh q < end_place sh n
place_lt_end sh n (at_leaf a m) o = omega (arith, digits_lt o.0 o.1)
place_lt_end sh n (at_inner a m x y) o =
    let h : a - sh.leaves < sh.inners = omega arith in
    omega (arith, digits_lt (digits_lt (pair_lt x y n o.2 o.3) h) o.1)
