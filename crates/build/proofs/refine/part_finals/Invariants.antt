-- The codes before x are parted.
use Rattle.std.proofs.Common.{◌≡◌, ℕ, ◌<◌}
use Rattle.automata.specs.Atoms.{one_if}
use Rattle.tables.specs.Exploring.{code_at}
use Rattle.build.specs.Refinement.{class_at}
use Rattle.build.proofs.refine.part_finals.Given as goal

abbrev pub invariant-loop-x : goal.invariant-loop-x
invariant-loop-x g l = (x : ℕ) → x < l.x → class_at l.classes x ≡ one_if ((g.M.Machine.meaning l.machine).final (code_at l.codes x))
