-- The checks, and the run over the slot's machine.
use Rattle.std.proofs.Common.{ltb, length, refl, lit≤, rules}
use Rattle.trees.specs.Reading.{first_refusal}
use Rattle.racks.specs.Calls.{call_judge}
use Rattle.racks.specs.Promises.{judged_by}
use Rattle.racks.proofs.Dones.{denied}
use Rattle.store.proofs.Exits.{handed_on}
use Rattle.store.proofs.Moving.{machine_at}
use Rattle.rack.proofs.Verdicts.{judged_done, verdict_logged}
use Rattle.rack.proofs.reading.judge.Goals as goal

pub returns-in_err-filled-clause-done : goal.returns-in_err-filled-clause-done
returns-in_err-filled-clause-done c =
    let call = call_judge c.args.slot c.args.listing.now (length c.args.stack.now) in
    handed_on c.args.rack c.args.store.now call judged_by (λ e. refl) _ _ c.from_residual.ensures.1
    (denied c.args.rack call c.args.store.now _ (c.in_err-filled.ensures (first_refusal c.args.rack.shape (λ n. ltb n (length c.args.stack.now)) c.args.listing.now)))

pub returns : goal.returns
returns c =
    let meant = machine_at c.in_ok-filled.ensures.0 _ c.machine-machine.ensures in
    let done = judged_done c.args.rack c.args.store.now c.args.slot c.args.listing.now (length c.args.stack.now) 256 c.in_ok-filled.ensures.1 (lit≤ tt) _ meant
    c.judge.result c.judge.ensures.answer in
    record {
      done = done;
      right = verdict_logged c.args.rack c.args.store.now c.args.slot c.args.listing.now (length c.args.stack.now) c.judge.result done;
      stack = search rules;
    }
