-- The inner cells before are written.
use Rattle.std.proofs.Common.{◌+◌, length}
use Rattle.tables.specs.Images.{leaf_rows}
use Rattle.build.specs.Imaging.{Filled, inner_byte}
use Rattle.build.proofs.image.States.put_inners.Given as goal

abbrev pub invariant-loop-j : goal.invariant-loop-j
invariant-loop-j l =
    Filled (1 + l.self.layout.most + leaf_rows l.self.layout.shape) l.j (inner_byte l.self.layout (length l.self.firsts.now) l.initial.cells l.self.classes.now l.self.firsts.now) l.initial.cells l.cells
