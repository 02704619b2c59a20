-- The flags before are written.
use Rattle.std.proofs.Common.{◌≡◌, ℕ, ◌<◌, length, slice_index}
use Rattle.build.specs.Imaging.{final_byte}
use Rattle.build.proofs.image.States.put_finals.Given as goal

abbrev pub invariant-loop-s : goal.invariant-loop-s
invariant-loop-s g l = (k : ℕ) → k < l.s → slice_index l.finals k ≡ final_byte (g.M.Machine.meaning l.machine) l.self.codes.now l.self.firsts.now (length l.self.firsts.now) k
