-- The checks, and the listing of the slot's bytes.
use Rattle.std.proofs.Common.{◌≡◌, ℕ, true, leb, List, length, None, Ok, Err, MatchResult, refl, subst, rules}
use Rattle.trees.specs.declared.refusal.Reason.TheVariants.{BufferTooShort}
use Rattle.trees.specs.Reading.{check}
use Rattle.tables.specs.Canonical.{slot_text}
use Rattle.listing.specs.Listings.{Listed, listable}
use Rattle.racks.specs.Racks.{slot}
use Rattle.racks.specs.Calls.{call_list, by_rack}
use Rattle.racks.specs.Promises.{listed_by}
use Rattle.racks.proofs.Dones.{denied}
use Rattle.store.proofs.Exits.{handed_on}
use Rattle.store.proofs.Moving.{moved}
use Rattle.rack.proofs.Texts.{answers, slot_listable, list_logged}
use Rattle.rack.proofs.reading.list.Goals as goal

pub returns-in_err-filled-clause-done : goal.returns-in_err-filled-clause-done
returns-in_err-filled-clause-done c =
    let call = call_list c.args.slot (length c.args.buffer.now) in
    let text = slot_text c.args.rack.shape c.args.rack.most (slot c.args.rack c.args.store.now c.args.slot) in
    handed_on c.args.rack c.args.store.now call (λ r. listed_by r c.args.buffer.now) (λ e. refl) _ _ c.from_residual.ensures.1
    (denied c.args.rack call c.args.store.now _ (c.in_err-filled.ensures (check (leb (length text) (length c.args.buffer.now)) (by_rack BufferTooShort) None)))

pub returns : goal.returns
returns c =
    let here = c.in_ok-filled.ensures.0 in
    let fits = moved here (λ R xs k. listable R.shape R.most (slot R xs k) ≡ true) (slot_listable c.in_ok-filled.field-0) in
    let bytes = moved here (λ R xs k. c.bytes-image.result.now ≡ slot R xs k) c.bytes-image.ensures in
    let said : MatchResult c.list_table.result (λ n. c.map_err.result ≡ Ok n) (λ _. c.map_err.result ≡ Err (by_rack BufferTooShort)) = search rules in
    let listed = subst (λ (bs : List ℕ). Listed c.args.rack.shape c.args.rack.most bs c.args.buffer.now c.list_table.new.buffer c.list_table.result) bytes c.list_table.ensures.answer in
    let all = answers c.args.rack c.args.store.now c.args.slot c.args.buffer.now c.list_table.new.buffer c.in_ok-filled.ensures.1 fits _ _ said listed in
    record {
      done = all.0;
      buffer = all.1;
      right = list_logged c.args.rack c.args.store.now c.args.slot (length c.args.buffer.now) c.map_err.result c.list_table.new.buffer all.0;
    }
