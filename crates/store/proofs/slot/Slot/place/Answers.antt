-- The bytes before a slot are few.
use Rattle.std.proofs.Common.{arith}
use Rattle.store.proofs.Widths.{slots_small}
use Rattle.store.proofs.slot.Slot.place.Goals as goal

pub overflow_mul-result : goal.overflow_mul-result
overflow_mul-result c =
    omega (arith, slots_small c.args.self.slots.rack c.args.self.number c.args.self.slots.width c.args.self.slots.fits c.args.self.slots.is (omega arith))
