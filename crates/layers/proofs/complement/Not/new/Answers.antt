use Rattle.std.proofs.Common.{refl}
use Rattle.automata.proofs.Products.{not_accepts}
use Rattle.layers.proofs.complement.Not.new.Goals as goal

pub returns : goal.returns
returns g c = record { layer = refl; accepted = not_accepts (g.M.Machine.meaning c.args.of) (g.M.Machine.lawful c.args.of) }
