use Rattle.std.proofs.Common.{◌≡◌, ◌*◌, ◌%◌, ◌^◌, rules}
use Rattle.layers.proofs.Tracks.{absent_is, present_is}
use Rattle.layers.proofs.set_codes.SetCodes.node.Goals as goal

pub returns-clause-absent : goal.returns-clause-absent
returns-clause-absent g c =
    let i = c.args.self.now.track in
    let below = c.args.self.now.in_byte in
    let mark : 1 * 2 ^ i % 256 ≡ 2 ^ i = search rules in
    rw mark (absent_is i c.args.marks)

pub returns-clause-present : goal.returns-clause-present
returns-clause-present g c =
    let i = c.args.self.now.track in
    let below = c.args.self.now.in_byte in
    let mark : 1 * 2 ^ i % 256 ≡ 2 ^ i = search rules in
    rw mark (present_is i c.args.marks)
