-- A step over indices has a cell, which holds the index of a class.
use Rattle.std.proofs.Common.{arith}
use Rattle.automata.specs.Numbering.{at_inner}
use Rattle.tables.proofs.Questions.{address_lt}
use Rattle.build.proofs.refine.Round.step_class.Goals as goal

pub bounds-self-inner_address : goal.bounds-self-inner_address
bounds-self-inner_address c =
    let r = c.args.self.now in
    let i = r.indexed in
    omega (
      arith,
      c.inner_address.ensures,
      i.lent,
      i.room,
      c.requires.below,
      address_lt r.layout.shape r.layout.most (at_inner c.args.label c.args.marks c.args.x c.args.y) (c.requires.step.0, c.requires.step.1, omega (arith, i.room, c.requires.below), omega (arith, i.room, c.requires.below)),
    )
