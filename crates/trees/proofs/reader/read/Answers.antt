use Rattle.trees.proofs.Fronts.{answers}
use Rattle.trees.proofs.Ends.{tree_held}
use Rattle.trees.proofs.reader.read.Goals as goal

pub returns-clause-answers : goal.returns-clause-answers
returns-clause-answers g c = answers _ _ _

pub returns-clause-made : goal.returns-clause-made
returns-clause-made g c =
    let h = c.read_nodes.ensures in
    tree_held _ _ _ (g.F.Fold.holds c.args.fold.now c.args.fold.now _) (g.F.Fold.holds c.args.fold.now c.read_nodes.new.fold) _ h.due h.made
