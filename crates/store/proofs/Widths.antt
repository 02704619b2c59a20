-- How wide a slot is.
use Rattle.std.proofs.Common.{◌≡◌, ℕ, ◌+◌, ◌*◌, ◌^◌, ◌≤◌, true, arith, pow_mono}
use Rattle.std.proofs.lemmas.Nat.{mul-le}
use Rattle.trees.specs.declared.shape.Shape.{Shape}
use Rattle.trees.proofs.Limits.{bounds}
use Rattle.tables.specs.Images.{width, Fits}
use Rattle.racks.specs.declared.rack.Rack.{Rack}
use Rattle.racks.specs.Racks.{rack_fits, slot_bytes}
use Rattle.racks.proofs.Passes.{limits_of}

small : (N a b : ℕ) → N ≤ 32 → a ≤ 512 → b ≤ 256 → 1 + N + a + b * N * N ≤ 262689
small N a b n h k =
    let u : b * N ≤ 256 * 32 = mul-le b N 256 32 k n in
    let v : b * N * N ≤ 256 * 32 * 32 = mul-le (b * N) N (256 * 32) 32 u n in
    omega arith

pub width_small : (sh : Shape) (N : ℕ) → Fits sh N → width sh N ≤ 262689
width_small sh N f =
    let b = bounds sh f.shape in
    let p : 2 ^ sh.tracks ≤ 64 = pow_mono {i = sh.tracks} {j = 6} b.tracks.1 in
    small N (sh.leaves * 2 ^ sh.tracks) (sh.inners * 2 ^ sh.tracks) f.few (mul-le sh.leaves (2 ^ sh.tracks) 8 64 b.leaves.1 p) (mul-le sh.inners (2 ^ sh.tracks) 4 64 b.inners.1 p)

-- the bytes of no more slots than a rack's are few
pub slots_small : (R : Rack) (n w : ℕ) → rack_fits R ≡ true → w ≡ slot_bytes R → n ≤ R.slots → n * w ≤ 4203024
slots_small R n w e is h =
    let l = limits_of R e in
    let v = width_small R.shape R.most (record { shape = l.shape; some = omega (arith, l.least); few = l.most }) in
    mul-le n w 16 262689 (omega (arith, l.slots)) (omega arith)
