-- The machine is the slot's, and right by every log.
use Rattle.std.proofs.Common.{None}
use Rattle.filling.specs.Fillings.{table_meaning}
use Rattle.store.proofs.Moving.{machine_at}
use Rattle.rack.proofs.Machines.{machine_right}
use Rattle.rack.proofs.reading.machine.Goals as goal

pub returns : goal.returns
returns c =
    let free = c.in_ok-filled.ensures.1 None in
    let meant = machine_at c.in_ok-filled.ensures.0 _ c.machine.ensures in
    (free, meant, machine_right c.args.rack c.args.store.now c.args.slot (table_meaning c.machine.result) meant free)
