-- Alike codes are of one class; a round that parts a class leaves more of them, and no more than codes.
use Rattle.std.proofs.Common.{◌-◌, length}
use Rattle.tables.specs.Exploring.{code_at}
use Rattle.tables.specs.Rounds.{Coarse}
use Rattle.build.specs.Discovery.{index_table}
use Rattle.build.specs.Refinement.{class_at}
use Rattle.build.proofs.refine.refine.Given as goal

abbrev pub invariant-loop-count : goal.invariant-loop-count
invariant-loop-count g l =
    Coarse (g.M.Machine.meaning l.machine) (code_at l.codes) (index_table (g.M.Machine.meaning l.machine) l.layout.most (length l.codes) l.codes l.cells) (class_at l.classes) l.count

abbrev pub decreases-loop-count : goal.decreases-loop-count
decreases-loop-count g l = length l.codes - l.count
