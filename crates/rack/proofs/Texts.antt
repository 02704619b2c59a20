-- What the listing of a slot's bytes answers is the text of the call.
use Rattle.std.proofs.Common.{◌≡◌, ℕ, ◌+◌, ◌*◌, ◌≤◌, Bool, true, leb, List, ◌++◌, length, take, drop, None, Ok, Err, Option, Result, MatchResult, sym, refl, ap, ◌∙◌, subst, arith, length-drop, length-take}
use Rattle.std.proofs.lemmas.List.{take-append-le, take_all}
use Rattle.std.proofs.lemmas.Bool.{le-leb, lt-leb, and_from}
use Rattle.trees.specs.declared.refusal.Reason.TheVariants.{BufferTooShort}
use Rattle.trees.specs.declared.refusal.Refusal.{Refusal}
use Rattle.trees.specs.Reading.{check}
use Rattle.tables.specs.Images.{fits}
use Rattle.tables.specs.Canonical.{slot_text}
use Rattle.listing.specs.declared.listing.Unwritten.{Unwritten}
use Rattle.listing.specs.Listings.{Listed, listable}
use Rattle.listing.specs.declared.listing.Unwritten.TheVariants.{Short, Unserved}
use Rattle.racks.specs.declared.rack.Rack.{Rack}
use Rattle.racks.specs.Racks.{slot, slot_bytes}
use Rattle.racks.specs.Calls.{call_list, by_rack, listed}
use Rattle.racks.specs.Log.{Log, KeptIn}
use Rattle.racks.specs.Promises.{listed_by, ListedIn, ListLogged, Done}
use Rattle.racks.proofs.Dones.{done, denied}
use Rattle.racks.proofs.Lists.{lists}
use Rattle.racks.proofs.Passes.{limits_of}
use Rattle.racks.proofs.Stores.{ends}
use Rattle.store.specs.declared.slot.Slot.{Slot}
use Rattle.store.specs.Checks.{full_chain}

front : (n : ℕ) (text rest : List ℕ) → n ≡ length text → take n (text ++ rest) ≡ text
front n text rest e = take-append-le n text rest (omega (arith, e)) ∙ take_all n text (omega (arith, e))

module _ (R : Rack) (store : List ℕ) (k : ℕ) (before after : List ℕ) (pass : (rest : Option Refusal) → full_chain R store k rest ≡ rest) where
  abbrev text : List ℕ
  text = slot_text R.shape R.most (slot R store k)

  abbrev short : Refusal
  short = by_rack BufferTooShort

  -- a listing says what List answers, where the bytes of the slot are listable
  pub answers : listable R.shape R.most (slot R store k) ≡ true → (r : Result ℕ Unwritten) (q : Result ℕ Refusal) → MatchResult r (λ n. q ≡ Ok n) (λ x. q ≡ Err short)
      → Listed R.shape R.most (slot R store k) before after r → Done R (call_list k (length before)) store store (listed_by q after) × ListedIn text before after q
  answers fits (Ok n) q is l =
      subst (λ (q : Result ℕ Refusal). Done R (call_list k (length before)) store store (listed_by q after) × ListedIn text before after q) (sym is) (
        done R (call_list k (length before)) store store (listed (take n after)) (
          pass (check (leb (length text) (length before)) short None) ∙ ap (λ (b : Bool). check b short None) (le-leb _ _ (omega (arith, l.1, l.2))),
          ap (take n) l.3 ∙ front n text (drop n before) l.1,
        ) refl,
        (l.1, l.3),
      )
  answers fits (Err (Short n)) q is l =
      subst (λ (q : Result ℕ Refusal). Done R (call_list k (length before)) store store (listed_by q after) × ListedIn text before after q) (sym is) (
        denied R (call_list k (length before)) store short
            (pass (check (leb (length text) (length before)) short None) ∙ ap (λ (b : Bool). check b short None) (lt-leb _ _ (omega (arith, l.1, l.2)))),
        l.3,
      )
  answers fits (Err Unserved) q is l = absurd (cc)

-- the bytes of a slot are always listable
pub slot_listable : (s : Slot) → listable s.slots.rack.shape s.slots.rack.most (slot s.slots.rack s.slots.store.now s.number) ≡ true
slot_listable s = and_from (fits s.slots.rack.shape s.slots.rack.most) _ (limits_of s.slots.rack s.slots.fits).fitting (le-leb _ _ (omega (arith, long)))
  where
    long : length (slot s.slots.rack s.slots.store.now s.number) ≡ slot_bytes s.slots.rack
    long =
        let end = ends s.slots.width s.number s.slots.rack.slots s.there in
        let low : s.number * slot_bytes s.slots.rack + slot_bytes s.slots.rack ≤ length s.slots.store.now =
        subst (λ (n : ℕ). s.number * n + n ≤ length s.slots.store.now) s.slots.is (omega (arith, end, s.slots.room)) in
        simp (length-take, length-drop) (omega arith)

pub list_logged : (R : Rack) (store : List ℕ) (k room : ℕ) (r : Result ℕ Refusal) (buffer : List ℕ) → Done R (call_list k room) store store (listed_by r buffer)
    → (log : Log) → KeptIn R log store → ListLogged R log k r buffer
list_logged R store k room (Ok n) buffer d log kept = lists R log store k room (take n buffer) kept d.effect
list_logged R store k room (Err e) buffer d log kept = tt
