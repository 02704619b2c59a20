-- The cells before are written, and the others are as they were.
use Rattle.std.proofs.Common.{◌≡◌, ℕ, ◌<◌, ◌≤◌, slice_index}
use Rattle.build.specs.Refinement.{class_at}
use Rattle.build.proofs.image.States.put_leaves.Given as goal

abbrev pub invariant-loop-cell : goal.invariant-loop-cell
invariant-loop-cell l = record {
  written : (k : ℕ) → k < l.cell-index → slice_index l.leaves k ≡ class_at l.self.classes.now (slice_index l.initial.leaves k);
  left : (k : ℕ) → l.cell-index ≤ k → slice_index l.leaves k ≡ slice_index l.initial.leaves k;
}
