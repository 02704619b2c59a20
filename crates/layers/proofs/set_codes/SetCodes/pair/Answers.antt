use Rattle.layers.proofs.Steps.{pair_step}
use Rattle.layers.proofs.set_codes.SetCodes.pair.Goals as goal

pub returns : goal.returns
returns g c =
    pair_step (g.M.Machine.meaning c.args.self.now.of.now) (g.M.Machine.lawful c.args.self.now.of.now)
    _ _ _ _ _ _ _ _ c.inner.ensures c.inner-2.ensures c.set_of.ensures
