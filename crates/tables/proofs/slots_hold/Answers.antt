use Rattle.tables.proofs.slots_hold.Goals as goal
use Rattle.tables.proofs.Slots.{canonical_slot}

pub returns : goal.returns
returns c = canonical_slot
