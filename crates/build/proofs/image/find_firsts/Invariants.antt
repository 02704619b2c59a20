-- The first indices of the classes before are found.
use Rattle.std.proofs.Common.{length}
use Rattle.build.specs.Imaging.{Firsts}
use Rattle.build.proofs.image.find_firsts.Given as goal

abbrev pub invariant-loop-s : goal.invariant-loop-s
invariant-loop-s l = Firsts l.classes (length l.classes) l.s l.firsts
