-- The rings before are asked; each ring is of a code found, and those are few.
use Rattle.std.proofs.Common.{◌+◌, ◌-◌, ◌*◌, ◌≤◌}
use Rattle.tables.specs.Images.{leaf_rows, inner_rows}
use Rattle.build.specs.Discovery.{Kept, Discovering}
use Rattle.build.proofs.discover.discover.Given as goal

abbrev pub invariant-loop-ring : goal.invariant-loop-ring
invariant-loop-ring g l = record {
  kept : Kept l.initial.found l.found;
  rings : l.ring ≤ l.found.len;
  asked : Discovering (g.M.Machine.meaning l.machine) l.found (leaf_rows l.found.layout.shape + l.ring * l.ring * inner_rows l.found.layout.shape);
}

abbrev pub decreases-loop-ring : goal.decreases-loop-ring
decreases-loop-ring g l = l.found.layout.most - l.ring
