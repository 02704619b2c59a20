use Rattle.std.proofs.Common.{◌≡◌, ◌+◌, ◌*◌, ◌≤◌, List, [], length}
use Rattle.trees.specs.Trees.{Tree}
use Rattle.trees.specs.Stacks.{parts}
use Rattle.trees.specs.Reading.{rest_refusal}
use Rattle.trees.proofs.reader.read_nodes.Given as goal

abbrev pub invariant-loop-bytes : goal.invariant-loop-bytes
invariant-loop-bytes g l =
    let fold = l.initial.fold in
    let room = g.F.Fold.room fold in
    record {
      due : rest_refusal l.shape room l.reading.place l.reading.height l.bytes ≡ rest_refusal l.shape room 0 0 l.initial.bytes;
      place : l.reading.place * 2 + length l.bytes ≡ length l.initial.bytes;
      height : l.reading.height ≤ l.reading.place;
      same : g.F.Fold.room l.fold ≡ room;
      made : g.F.Fold.holds fold fold [] → (ts : List Tree) × (length ts ≡ l.reading.height)
          × (parts l.shape.leaves l.bytes ts ≡ parts l.shape.leaves l.initial.bytes []) × g.F.Fold.holds fold l.fold ts;
    }

abbrev pub decreases-loop-bytes : goal.decreases-loop-bytes
decreases-loop-bytes g l = length l.bytes
