-- The first index of one class more.
use Rattle.std.proofs.Common.{arith}
use Rattle.build.proofs.Firsts.{appears_found, firsts_more}
use Rattle.build.proofs.image.find_firsts.Goals as goal

pub unwrap-requires : goal.unwrap-requires
unwrap-requires c = appears_found _ _ _ _ c.requires.appears (omega arith) c.first_of.ensures

pub loop-s-preserved : goal.loop-s-preserved
loop-s-preserved c = firsts_more _ _ _ _ _ _ c.requires.appears (omega arith) c.loop-s.invariant (omega arith) c.first_of.ensures c.unwrap.ensures
