use Rattle.std.proofs.Common.{rules, tests}
use Rattle.layers.specs.Projection.{row_set}
use Rattle.layers.proofs.Folds.{fold_gathers}
use Rattle.layers.proofs.set_codes.SetCodes.inner.Goals as goal

pub returns : goal.returns
returns g c =
    let M = g.M.Machine.meaning c.args.self.now.of.now in
    let n = c.node-node.result in
    let e = fold_gathers _ _ _ M.count (row_set M n.label n.absent n.present c.args.rights)
    (λ s x r f k. search (rules, tests)) c.args.lefts _ _ c.of.ensures c.requires.lefts_below c.fold.ensures.ran in
    search rules
