-- The pairs of the turns before are asked over.
use Rattle.std.proofs.Common.{◌+◌, ◌*◌}
use Rattle.tables.specs.Images.{leaf_rows, inner_rows}
use Rattle.build.specs.Discovery.{Kept, Discovering}
use Rattle.build.proofs.found.Found.ask_ring.Given as goal

abbrev pub invariant-loop-turn : goal.invariant-loop-turn
invariant-loop-turn g l = record {
  kept : Kept l.initial.self l.self;
  asked : Discovering (g.M.Machine.meaning l.machine) l.self (leaf_rows l.self.layout.shape + (l.ring * l.ring + l.turn) * inner_rows l.self.layout.shape);
}
