-- The bytes of all slots are few.
use Rattle.std.proofs.Common.{arith, rules}
use Rattle.store.proofs.Widths.{slots_small}
use Rattle.store.proofs.slot.Slots.open.Goals as goal

pub overflow_mul-rack : goal.overflow_mul-rack
overflow_mul-rack c = omega (arith, slots_small c.args.rack c.args.rack.slots c.width-width.result c.in-Some.ensures.0 (search rules) (omega arith))
