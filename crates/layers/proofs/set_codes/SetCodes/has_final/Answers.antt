use Rattle.std.proofs.Common.{rules, tests}
use Rattle.layers.proofs.Gatherings.{any_is}
use Rattle.layers.proofs.Folds.{any_finds}
use Rattle.layers.proofs.set_codes.SetCodes.has_final.Goals as goal

pub returns : goal.returns
returns g c =
    let M = g.M.Machine.meaning c.args.self.now.of.now in
    any_is M.count c.args.set M.final _ (g.M.Machine.lawful c.args.self.now.of.now).final_out
    (any_finds _ _ _ M.final (λ x r f k. search (rules, tests)) c.args.set _ _ _ c.of.ensures c.any.ensures.ran)
