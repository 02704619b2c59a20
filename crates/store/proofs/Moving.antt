-- What is known of a slot is known of its rack, its store and its number.
use Rattle.std.proofs.Common.{◌≡◌, ℕ, ◌+◌, List, ◌++◌, take, drop, replicate, ◌∙◌, subst, ap₂}
use Rattle.automata.specs.Automata.{Automaton}
use Rattle.racks.specs.declared.rack.Rack.{Rack}
use Rattle.racks.specs.Racks.{slot_bytes, put_slot, slot_machine}
use Rattle.store.specs.declared.slot.Slots.{Slots}
use Rattle.store.specs.declared.slot.Slot.{Slot}
use Rattle.store.specs.declared.slot.Place.{Place}
use Rattle.store.specs.Checks.{IsSlots, IsSlot, IsPlace, put_place}

pub moved : {R : Rack} {store : List ℕ} {k : ℕ} {s : Slot} → IsSlot R store k s → (P : Rack → List ℕ → ℕ → Type 0) → P s.slots.rack s.slots.store.now s.number → P R store k
moved {R} {store} {k} {s} is P p =
    subst (λ (R : Rack). P R store k) is.slots.rack
    (subst (λ (xs : List ℕ). P s.slots.rack xs k) is.slots.store_is (subst (λ (n : ℕ). P s.slots.rack s.slots.store.now n) is.number p))

pub machine_at : {R : Rack} {store : List ℕ} {k : ℕ} {s : Slot} → IsSlot R store k s → (M : Automaton) → M ≡ slot_machine s.slots.rack s.slots.store.now s.number
    → M ≡ slot_machine R store k
machine_at here M e = moved here (λ R xs n. M ≡ slot_machine R xs n) e

-- a slot of the slots of a store is one of the store
pub slot_of : {R : Rack} {store : List ℕ} {v : Slots} {k : ℕ} {s : Slot} → IsSlots R store v → IsSlot v.rack v.store.now k s → IsSlot R store k s
slot_of in_store is = record {
  slots = record { rack = is.slots.rack ∙ in_store.rack; store_is = is.slots.store_is ∙ in_store.store_is };
  number = is.number;
}

-- bytes put where a slot stands are put in the slot
pub put_at : {s : Slot} {p : Place} → IsPlace s p → (bs store : List ℕ)
    → put_place p (take p.width bs) store ≡ put_slot s.slots.rack s.number (take (slot_bytes s.slots.rack) bs) store
put_at at bs store = ap₂ (λ (n w : ℕ). take n store ++ (take w bs ++ drop (n + w) store)) at.start at.width

-- and so it is cleared
pub clear_at : {s : Slot} {p : Place} → IsPlace s p → (store : List ℕ)
    → put_place p (replicate p.width 0) store ≡ put_slot s.slots.rack s.number (replicate (slot_bytes s.slots.rack) 0) store
clear_at at store = ap₂ (λ (n w : ℕ). take n store ++ (replicate w 0 ++ drop (n + w) store)) at.start at.width
