use Rattle.std.proofs.Common.{◌^◌, ◌<◌, arith}
use lib.Count.{count_trailing_zeros}
use Rattle.trees.proofs.Bits.{bit_zero}
use Rattle.layers.proofs.Least.{least, took}
use Rattle.layers.proofs.members.MembersIterator.next.Goals as goal

pub overflow_sub-self : goal.overflow_sub-self
overflow_sub-self c =
    let below : c.args.self.now.rest < 2 ^ 64 = omega arith in
    let l = least c.args.self.now.rest c.if-self-eq0.false below in
    omega (arith, l.shifted, l.fits)

pub returns-clause-steps : goal.returns-clause-steps
returns-clause-steps c =
    let below : c.args.self.now.rest < 2 ^ 64 = omega arith in
    let l = least c.args.self.now.rest c.if-self-eq0.false below in
    rw (c.from.ensures, l.shifted) (took (count_trailing_zeros 64 c.args.self.now.rest) c.args.self.now.rest l.there)

pub returns-then-self-eq0-clause-steps : goal.returns-then-self-eq0-clause-steps
returns-then-self-eq0-clause-steps c = λ k. rw c.if-self-eq0.true (bit_zero k)
