-- The complement is what the call writes.
use Rattle.std.proofs.Common.{refl, ap, ◌∙◌}
use Rattle.automata.specs.Layers.{not_layer}
use Rattle.racks.specs.Racks.{slot_machine}
use Rattle.racks.specs.Calls.{call_not, check_lent}
use Rattle.racks.specs.Promises.{lent_by}
use Rattle.store.proofs.Moving.{machine_at, slot_of}
use Rattle.filling.proofs.Ends.{fills}
use Rattle.filling.proofs.fillings.ComplementFilling.build.Goals as goal

pub returns-clause-fills : goal.returns-clause-fills
returns-clause-fills c =
    let here = c.in_ok-slots.ensures.0.slots in
    let l = lent_by c.args.working.now in
    fills (slot_of here c.slot-2.ensures) (call_not c.args.res c.args.self.now.source l) (not_layer (slot_machine c.args.rack c.args.store.now c.args.self.now.source)) _
    (c.new-machine.ensures.layer ∙ ap not_layer (machine_at (slot_of here c.slot.ensures) _ c.machine.ensures)) l _ _ refl
    (c.in_ok-slots.ensures.1 (check_lent c.args.rack l)) c.build_in.ensures.made
