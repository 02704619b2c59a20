-- The checks, and the slot cleared.
use Rattle.std.proofs.Common.{◌≡◌, ℕ, ◌+◌, ◌++◌, take, drop, replicate, None, refl, ◌∙◌, ap₂}
use Rattle.racks.specs.Racks.{slot_bytes, put_slot}
use Rattle.racks.specs.Calls.{call_drop, filled}
use Rattle.racks.specs.Promises.{filled_by}
use Rattle.racks.proofs.Dones as dones
use Rattle.racks.proofs.Dones.{done}
use Rattle.store.proofs.Exits.{handed_on}
use Rattle.store.proofs.Moving.{moved}
use Rattle.rack.proofs.emptying.drop.Goals as goal

pub returns-in_err-filled : goal.returns-in_err-filled
returns-in_err-filled c =
    handed_on c.args.rack c.args.store.now (call_drop c.args.slot) (λ r. filled_by r c.args.store.now) (λ e. refl) _ _ c.from_residual.ensures.1
    (dones.denied c.args.rack (call_drop c.args.slot) c.args.store.now _ (c.in_err-filled.ensures None))

pub returns : goal.returns
returns c =
    let at = ap₂ (λ (n w : ℕ). take n c.args.store.now ++ (replicate w 0 ++ drop (n + w) c.args.store.now)) c.place-place.ensures.start c.place-place.ensures.width in
    let cleared = moved c.in_ok-filled.ensures.0 (λ R _ k. c.clear.new.store ≡ put_slot R k (replicate (slot_bytes R) 0) c.args.store.now) (c.clear.ensures ∙ at) in
    done c.args.rack (call_drop c.args.slot) c.args.store.now _ (filled c.clear.new.store) (c.in_ok-filled.ensures.1 None, cleared) refl
