-- The inner steps of the rows before are asked over the pair.
use Rattle.std.proofs.Common.{◌+◌, ◌*◌}
use Rattle.automata.specs.Numbering.{pair_place}
use Rattle.tables.specs.Images.{leaf_rows, inner_rows}
use Rattle.build.specs.Discovery.{Kept, Discovering}
use Rattle.build.proofs.found.Found.ask_pair.Given as goal

abbrev pub invariant-loop-row : goal.invariant-loop-row
invariant-loop-row g l = record {
  kept : Kept l.initial.self l.self;
  asked : Discovering (g.M.Machine.meaning l.machine) l.self (leaf_rows l.layout.shape + pair_place l.x l.y * inner_rows l.layout.shape + l.row);
}
