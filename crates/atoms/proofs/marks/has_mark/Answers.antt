use Rattle.std.proofs.Common.{refl, arith, rules}
use Rattle.trees.specs.Nodes.{bit}
use Rattle.trees.proofs.Bits.{bit_none}
use Rattle.atoms.proofs.marks.has_mark.Goals as goal

pub returns-then-track-lt8 : goal.returns-then-track-lt8
unfolding bit
returns-then-track-lt8 c = refl

-- a byte has no bit past its eighth
pub returns-else-track-lt8 : goal.returns-else-track-lt8
returns-else-track-lt8 c =
    let none = bit_none c.args.track 8 c.args.marks (omega arith) (omega arith) in
    search rules
