-- At most 6 tracks give at most 64 marks.
use Rattle.std.proofs.Common.{◌^◌, ◌≤◌, arith}
use native.Mathlib.Nat.{pow-le-pow_right}
use Rattle.slots.proofs.addresses.Addresses.marks.Goals as goal

pub returns-clause-few : goal.returns-clause-few
returns-clause-few c =
    let high : 2 ^ c.args.self.shape.tracks ≤ 2 ^ 6 = pow-le-pow_right (omega arith) c.args.self.few_tracks in
    omega arith
