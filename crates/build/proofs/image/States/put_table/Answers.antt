-- Each part is written over what the parts before left as it was.
use Rattle.std.proofs.Common.{arith}
use Rattle.build.proofs.Images.{leaves_indexed, inners_indexed, table_built}
use Rattle.build.proofs.image.States.put_table.Goals as goal

pub put_leaves-requires : goal.put_leaves-requires
put_leaves-requires g c =
    leaves_indexed _ _ _ _ _ _ _ _ _ _ c.requires.ready c.requires.discovered c.requires.classed c.args.self.now.of_classes _ (omega arith) c.put_finals.auto.finals c.put_finals.ensures
    _ c.leaf_rows.ensures.is

pub put_inners-requires : goal.put_inners-requires
put_inners-requires g c =
    inners_indexed _ _ _ _ _ _ _ _ _ _ c.requires.ready c.requires.discovered c.requires.classed c.args.self.now.of_classes _ (omega arith) c.put_finals.auto.finals c.put_finals.ensures
    _ c.leaf_rows.ensures.is _ c.put_leaves.auto.leaves c.put_leaves.ensures

pub returns : goal.returns
returns g c =
    table_built _ _ _ _ _ _ _ _ _ _ c.requires.ready c.requires.discovered c.requires.classed c.args.self.now.of_classes _ (omega arith) c.put_finals.auto.finals c.put_finals.ensures
    _ c.leaf_rows.ensures.is _ c.put_leaves.auto.leaves c.put_leaves.ensures _ c.put_inners.auto.cells c.put_inners.ensures
