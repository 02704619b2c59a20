-- The projection is what the call writes.
use Rattle.std.proofs.Common.{ltb, sym, refl, ap, ◌∙◌, subst}
use Rattle.trees.specs.declared.refusal.Reason.TheVariants.{NoSuchTrack}
use Rattle.trees.specs.Shapes.{Limited}
use Rattle.trees.specs.Reading.{check}
use Rattle.automata.specs.Automata.{Automaton}
use Rattle.automata.specs.Layers.{some_layer}
use Rattle.machine.specs.Making.{refusal}
use Rattle.racks.specs.Racks.{rack_fits, slot_machine}
use Rattle.racks.specs.Calls.{call_some, check_lent}
use Rattle.racks.specs.Promises.{lent_by}
use Rattle.racks.proofs.Passes.{limits_of}
use Rattle.store.proofs.Moving.{machine_at, slot_of}
use Rattle.filling.proofs.Ends.{fills}
use Rattle.filling.proofs.Layers.{track_passed}
use Rattle.filling.proofs.fillings.ProjectionFilling.build.Goals as goal

pub returns-clause-fills : goal.returns-clause-fills
returns-clause-fills c =
    let R = c.args.rack in
    let source = c.args.self.now.source in
    let track = c.args.self.now.track in
    let l = lent_by c.args.working.now in
    let here = c.in_ok-slots.ensures.0.slots in
    let below = machine_at (slot_of here c.slot.ensures) _ c.machine.ensures in
    let limits = (limits_of R (ap rack_fits (sym here.rack) ∙ c.in_ok-slots.slots.fits)).shape in
    fills (slot_of here c.slot-2.ensures) (call_some c.args.res source track l) (some_layer track (slot_machine R c.args.store.now source)) _
    (c.in_ok-machine.ensures.layer (subst Limited (sym (ap (λ (m : Automaton). m.shape) below)) limits) ∙ ap (some_layer track) below) l _ _ refl
    (c.in_ok-slots.ensures.1 (check (ltb track R.shape.tracks) (refusal NoSuchTrack) (check_lent R l))
    ∙ track_passed R c.args.store.now source track _ below (check_lent R l) c.in_ok-machine.ensures.due) c.build_in.ensures.made
