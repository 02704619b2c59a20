-- The leaf steps of the rows before are asked.
use Rattle.build.specs.Discovery.{Kept, Discovering}
use Rattle.build.proofs.found.Found.ask_leaves.Given as goal

abbrev pub invariant-loop-row : goal.invariant-loop-row
invariant-loop-row g l = record {
  kept : Kept l.initial.self l.self;
  asked : Discovering (g.M.Machine.meaning l.machine) l.self l.row;
}
