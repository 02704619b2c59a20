use Rattle.std.proofs.Common.{rules, tests}
use Rattle.layers.specs.Projection.{pair_set}
use Rattle.layers.proofs.Folds.{fold_gathers}
use Rattle.layers.proofs.set_codes.SetCodes.row.Goals as goal

pub returns : goal.returns
returns g c =
    let M = g.M.Machine.meaning c.args.self.now.of.now in
    fold_gathers _ _ _ M.count (pair_set M c.args.node.label c.args.node.absent c.args.node.present c.args.left)
    (λ s x r f k. search (rules, tests)) c.args.rights _ _ c.of.ensures c.requires c.fold.ensures.ran
