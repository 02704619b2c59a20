use Rattle.std.proofs.Common.{rules}
use Rattle.layers.proofs.Made.{made_some}
use Rattle.layers.proofs.projection.Exists.new.Goals as goal

pub returns : goal.returns
returns g c =
    made_some c.args.track (g.M.Machine.meaning c.args.of) (g.M.Machine.lawful c.args.of) (search rules)
