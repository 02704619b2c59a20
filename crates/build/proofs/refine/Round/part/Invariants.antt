-- The codes before x are numbered.
use Rattle.std.proofs.Common.{length}
use Rattle.tables.specs.Rounds.{Numbering}
use Rattle.build.specs.Refinement.{Agreed, class_at}
use Rattle.build.proofs.refine.Round.part.Given as goal

abbrev pub invariant-loop-x : goal.invariant-loop-x
invariant-loop-x l = Numbering (Agreed l.self.layout (length l.self.classes.now) l.self.cells.now l.self.classes.now) (class_at l.next) l.x l.count
