-- The product is what the call writes.
use Rattle.std.proofs.Common.{◌∙◌}
use Rattle.automata.specs.Layers.{pair_layer}
use Rattle.racks.specs.Racks.{slot_machine}
use Rattle.racks.specs.Calls.{check_lent}
use Rattle.racks.specs.Promises.{lent_by}
use Rattle.store.proofs.Moving.{slot_of}
use Rattle.filling.proofs.Ends.{fills, pair_at}
use Rattle.filling.proofs.fillings.PairFilling.build.Goals as goal

pub returns-clause-fills : goal.returns-clause-fills
returns-clause-fills g c =
    let here = c.in_ok-slots.ensures.0.slots in
    let call = g.met.C.Joining.makes in
    let left = c.args.self.now.left in
    let right = c.args.self.now.right in
    let l = lent_by c.args.working.now in
    fills (slot_of here c.slot.ensures) (g.C.Joining.call c.args.res left right l)
    (pair_layer g.C.Connective.op (slot_machine c.args.rack c.args.store.now left) (slot_machine c.args.rack c.args.store.now right)) _
    (pair_at here g.C.Connective.op left right _ c.in_ok-machine.ensures) l _ _ (call.write c.args.rack c.args.store.now c.args.res left right l)
    (call.due c.args.rack c.args.store.now c.args.res left right l ∙ c.in_ok-slots.ensures.1 (check_lent c.args.rack l)) c.build_in.ensures.made
