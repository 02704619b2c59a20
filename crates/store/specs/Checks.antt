-- Checks that calls share, what is known once they have been passed, and places in a store.
-- Words:
--   Checked chain P r     what a check answers: a value of which P holds, and the chain leaves what is due to the rest; or the refusal that the chain gives
--   check_slots R ks rest      each of these slots exists, in their order
--   check_fulls taken ks rest  each of them holds a table, in their order
--   full_chain R store k       rack and store, slot k exists and holds a table
--   ready_chain R store k ks   rack and store, slot k and each of ks exist, k is free and each of ks holds a table
--   IsSlots R store s, IsSlot R store k s   s is the slots of R in the store, slot k of them
--   IsReady R store k ks s     s is these slots, and k and each of ks is one of them
--   IsPlace s p                p is where slot s stands
--   put_place p bs store       the store with bs in the place
use Rattle.std.specs.Prelude.{◌≡◌, ℕ, ◌+◌, ◌*◌, ◌<◌, ◌≤◌, Bool, List, [], ◌∷◌, ◌++◌, length, take, drop, Some, Option, Result, MatchResult, All}
use Rattle.trees.specs.declared.refusal.Refusal.{Refusal}
use Rattle.racks.specs.declared.rack.Rack.{Rack}
use Rattle.racks.specs.Racks.{slot_bytes, is_taken}
use Rattle.racks.specs.Calls.{check_open, check_slot, check_free, check_full}
use Rattle.store.specs.declared.slot.Slots.{Slots}
use Rattle.store.specs.declared.slot.Slot.{Slot}
use Rattle.store.specs.declared.slot.Place.{Place}

abbrev pub Checked : {A : Type 0} → (Option Refusal → Option Refusal) → (A → Type 0) → Result A Refusal → Type 0
Checked chain P r = MatchResult r (λ a. P a × ((rest : Option Refusal) → chain rest ≡ rest)) (λ e. (rest : Option Refusal) → chain rest ≡ Some e)

abbrev pub check_slots : Rack → List ℕ → Option Refusal → Option Refusal
check_slots R [] rest = rest
check_slots R (k ∷ ks) rest = check_slot R k (check_slots R ks rest)

abbrev pub check_fulls : (ℕ → Bool) → List ℕ → Option Refusal → Option Refusal
check_fulls taken [] rest = rest
check_fulls taken (k ∷ ks) rest = check_full taken k (check_fulls taken ks rest)

abbrev pub full_chain : Rack → List ℕ → ℕ → Option Refusal → Option Refusal
full_chain R store k rest = check_open R store (check_slot R k (check_full (is_taken R store) k rest))

abbrev pub ready_chain : Rack → List ℕ → ℕ → List ℕ → Option Refusal → Option Refusal
ready_chain R store k ks rest =
    check_open R store (check_slot R k (check_slots R ks (check_free (is_taken R store) k (check_fulls (is_taken R store) ks rest))))

pub record IsSlots (R : Rack) (store : List ℕ) (s : Slots) : Type 0 where
  pub rack : s.rack ≡ R
  pub store_is : s.store.now ≡ store

pub record IsSlot (R : Rack) (store : List ℕ) (k : ℕ) (s : Slot) : Type 0 where
  pub slots : IsSlots R store s.slots
  pub number : s.number ≡ k

pub record IsReady (R : Rack) (store : List ℕ) (k : ℕ) (ks : List ℕ) (s : Slots) : Type 0 where
  pub slots : IsSlots R store s
  pub slot_in : k < R.slots
  pub sources_in : All (λ x. x < R.slots) ks

pub record IsPlace (s : Slot) (p : Place) : Type 0 where
  pub start : p.start ≡ s.number * slot_bytes s.slots.rack
  pub width : p.width ≡ slot_bytes s.slots.rack
  pub room : p.start + p.width ≤ length s.slots.store.now

abbrev pub put_place : Place → List ℕ → List ℕ → List ℕ
put_place p bs store = take p.start store ++ (bs ++ drop (p.start + p.width) store)
