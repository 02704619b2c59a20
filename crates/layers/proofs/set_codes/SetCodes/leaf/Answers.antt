use Rattle.layers.proofs.Steps.{leaf_step}
use Rattle.layers.proofs.set_codes.SetCodes.leaf.Goals as goal

pub returns : goal.returns
returns g c =
    leaf_step (g.M.Machine.meaning c.args.self.now.of.now) (g.M.Machine.lawful c.args.self.now.of.now) _ _ _ _ _ _ _ _
    c.node-node.ensures.absent c.node-node.ensures.present c.leaf.ensures c.leaf-2.ensures c.set_of.ensures
