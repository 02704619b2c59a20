-- Each question has an address of its own, below the width.
use Rattle.std.proofs.Common.{◌≡◌, ℕ, ◌+◌, ◌-◌, ◌*◌, ◌^◌, ◌<◌, ◌≤◌, ap₂, arith, pow_mono}
use lib.Arith.{digits_lt}
use Rattle.std.proofs.lemmas.Nat.{mul-le}
use Rattle.trees.specs.declared.shape.Shape.{Shape}
use Rattle.trees.specs.Shapes.{Limited}
use Rattle.trees.proofs.Limits.{bounds}
use Rattle.automata.specs.Numbering.{Question, at_leaf, at_inner, Over}
use Rattle.automata.proofs.Places.{digits_inj}
use Rattle.tables.specs.Images.{width, address, inner_rows}

pub address_inj : (sh : Shape) (N : ℕ) (q q' : Question) → Over sh N q → Over sh N q' → address sh N q ≡ address sh N q' → q ≡ q'
address_inj sh N (at_leaf a m) (at_leaf b j) o p e =
    let z = digits_inj a m b j (2 ^ sh.tracks) o.1 p.1 (omega (arith, e)) in ap₂ at_leaf z.0 z.1
address_inj sh N (at_leaf a m) (at_inner b j u v) o p e = absurd (omega (arith, e, digits_lt o.0 o.1))
address_inj sh N (at_inner a m x y) (at_leaf b j) o p e = absurd (omega (arith, e, digits_lt p.0 p.1))
address_inj sh N (at_inner a m x y) (at_inner b j u v) o p e =
    let z = digits_inj ((a - sh.leaves) * 2 ^ sh.tracks + m) (x * N + y) ((b - sh.leaves) * 2 ^ sh.tracks + j) (u * N + v) (N * N)
    (digits_lt o.2 o.3) (digits_lt p.2 p.3) (omega (arith, e)) in
    let w = digits_inj (a - sh.leaves) m (b - sh.leaves) j (2 ^ sh.tracks) o.1 p.1 z.0 in
    let s = digits_inj x y u v N o.3 p.3 z.1 in
    let same : a ≡ b = omega (arith, w.0, o.0, p.0) in
    cc (same, w.1, s.0, s.1)

row_address_lt : (I N r x y : ℕ) → r < I → x < N → y < N → r * (N * N) + x * N + y < I * N * N
row_address_lt I N r x y h k l =
    let z : r * (N * N) + x * N + y ≡ (r * N + x) * N + y = omega arith in
    omega (arith, z, digits_lt (digits_lt h k) l)

pub address_lt : (sh : Shape) (N : ℕ) (q : Question) → Over sh N q → address sh N q < width sh N
address_lt sh N (at_leaf a m) o = omega (arith, digits_lt o.0 o.1)
address_lt sh N (at_inner a m x y) o =
    let b : a - sh.leaves < sh.inners = omega arith in
    omega (arith, row_address_lt (sh.inners * 2 ^ sh.tracks) N ((a - sh.leaves) * 2 ^ sh.tracks + m) x y (digits_lt b o.1) o.2 o.3)

pub inner_rows_le : (sh : Shape) → Limited sh → inner_rows sh ≤ 256
inner_rows_le sh h = let b = bounds sh h in mul-le sh.inners (2 ^ sh.tracks) 4 64 b.inners.1 (pow_mono {i = sh.tracks} {j = 6} b.tracks.1)
