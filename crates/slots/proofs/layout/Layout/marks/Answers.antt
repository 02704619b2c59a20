-- A track at least gives 2 marks at least.
use Rattle.std.proofs.Common.{◌^◌, ◌≤◌, arith}
use native.Mathlib.Nat.{pow-le-pow_right}
use Rattle.trees.proofs.Limits.{bounds}
use Rattle.slots.proofs.layout.Layout.marks.Goals as goal

pub returns-clause-some : goal.returns-clause-some
returns-clause-some c =
    let b = bounds c.args.self.shape c.args.self.within.shape in
    let low : 2 ^ 1 ≤ 2 ^ c.args.self.shape.tracks = pow-le-pow_right (omega arith) b.tracks.0 in
    rw c.marks.ensures.is (rw c.addresses.ensures.shape (omega arith))
