-- The calls on a rack that is made, and what each does.
-- Words:
--   Lent                the lengths of the memory lent to a call that builds: codes, cells and classes
--   Call                a call with its arguments: slots, tracks and labels, the automaton of a machine taken in, a listing, the lengths of what is lent
--   by_rack why         a refusal that arises in the rack; its place is 0
--   due_by taken R store c   the first refusal due but for too many states, where taken tells which slots hold a table: rack and store first, then the
--                       checks of the call in their order
--   due R store c       the same, where the store tells
--   write R store c     what an answered call writes: the table of an automaton in a slot, zeros in a slot, or nothing
--   Outcome             a refusal; the store with a slot filled or emptied; a verdict; a text
--   Crowded R w         too many codes are reached for the table to be written
--   Written, Judges, Lists   what an answered call leaves in the store, says, lists
--   Effect R store c o  o is the outcome of the call: the first refusal due, or the answer
--   store_after         the store after an outcome: a refusal, a verdict and a text change nothing
--   answered_by         the outcome is no refusal
use Rattle.std.specs.Prelude.{◌≡◌, ℕ, ◌*◌, Bool, true, false, not, ◌&&◌, ◌||◌, ltb, ◌⊎◌, List, length, replicate, Some, None, Option, nat_le, nat_lt}
use Rattle.trees.specs.declared.refusal.Reason.{Reason}
use Rattle.trees.specs.declared.refusal.Reason.TheVariants.{OutsideLimits, StoreTooShort, NoSuchSlot, SlotTaken, SlotEmpty, NoSuchTrack, MemoryTooShort, TooManyStates, BufferTooShort, ShapesDiffer}
use Rattle.trees.specs.declared.refusal.Origin.TheVariants.{Rack as FromRack}
use Rattle.trees.specs.declared.refusal.Refusal.{Refusal}
use Rattle.trees.specs.Trees.{Tree}
use Rattle.trees.specs.Reading.{check, or_else, first_refusal, Reads}
use Rattle.automata.specs.Automata.{Automaton, accepts}
use Rattle.automata.specs.Rules.{Atom}
use Rattle.automata.specs.Atoms.{atom_automaton}
use Rattle.automata.specs.Layers.{not_layer, pair_layer, some_layer}
use Rattle.tables.specs.Tables.{TooMany}
use Rattle.tables.specs.Canonical.{slot_text, TableIn}
use Rattle.machine.specs.Making.{refusal}
use Rattle.atoms.specs.Making.{atom_refusal}
use Rattle.layers.specs.Product.{same_shape}
use Rattle.racks.specs.declared.rack.Rack.{Rack}
use Rattle.racks.specs.Racks.{rack_fits, slot_bytes, store_bytes, slot, put_slot, is_taken, slot_machine}

pub record Lent : Type 0 where
  pub codes : ℕ
  pub cells : ℕ
  pub classes : ℕ

pub data Call : Type 0 where
  call_atom : ℕ → Atom → Lent → Call
  call_not : ℕ → ℕ → Lent → Call
  call_both : ℕ → ℕ → ℕ → Lent → Call
  call_either : ℕ → ℕ → ℕ → Lent → Call
  call_some : ℕ → ℕ → ℕ → Lent → Call
  call_take : ℕ → Automaton → Lent → Call
  call_drop : ℕ → Call
  call_judge : ℕ → List ℕ → ℕ → Call
  call_list : ℕ → ℕ → Call

abbrev pub by_rack : Reason → Refusal
by_rack why = record { reason = why; place = 0; origin = FromRack }

-- a made rack in a store that is long enough
abbrev pub check_open : Rack → List ℕ → Option Refusal → Option Refusal
check_open R store rest = check (rack_fits R) (by_rack OutsideLimits) (check (nat_le (store_bytes R) (length store)) (by_rack StoreTooShort) rest)

abbrev pub check_slot : Rack → ℕ → Option Refusal → Option Refusal
check_slot R k rest = check (nat_lt k R.slots) (by_rack NoSuchSlot) rest

abbrev pub check_free : (ℕ → Bool) → ℕ → Option Refusal → Option Refusal
check_free taken k rest = check (not (taken k)) (by_rack SlotTaken) rest

abbrev pub check_full : (ℕ → Bool) → ℕ → Option Refusal → Option Refusal
check_full taken k rest = check (taken k) (by_rack SlotEmpty) rest

abbrev pub enough : Rack → Lent → Bool
enough R l = nat_le R.most l.codes && (nat_le (slot_bytes R) l.cells && nat_le (2 * R.most) l.classes)

abbrev pub check_lent : Rack → Lent → Option Refusal
check_lent R l = check (enough R l) (by_rack MemoryTooShort) None

abbrev pub due_by : (ℕ → Bool) → Rack → List ℕ → Call → Option Refusal
due_by taken R store (call_atom k A l) = check_open R store (check_slot R k (check_free taken k (or_else (atom_refusal R.shape A) (check_lent R l))))
due_by taken R store (call_not k x l) = check_open R store (check_slot R k (check_slot R x (check_free taken k (check_full taken x (check_lent R l)))))
due_by taken R store (call_both k x y l) =
    check_open R store (check_slot R k (check_slot R x (check_slot R y (check_free taken k (check_full taken x (check_full taken y (check_lent R l)))))))
due_by taken R store (call_either k x y l) =
    check_open R store (check_slot R k (check_slot R x (check_slot R y (check_free taken k (check_full taken x (check_full taken y (check_lent R l)))))))
due_by taken R store (call_some k x i l) =
    check_open R store (check_slot R k (check_slot R x (check_free taken k (check_full taken x
    (check (nat_lt i R.shape.tracks) (refusal NoSuchTrack) (check_lent R l))))))
due_by taken R store (call_take k M l) =
    check_open R store (check_slot R k (check_free taken k (check (same_shape M.shape R.shape) (by_rack ShapesDiffer) (check_lent R l))))
due_by taken R store (call_drop k) = check_open R store (check_slot R k (check_full taken k None))
due_by taken R store (call_judge k bs places) = check_open R store (check_slot R k (check_full taken k (first_refusal R.shape (λ n. ltb n places) bs)))
due_by taken R store (call_list k room) =
    check_open R store (check_slot R k (check_full taken k
    (check (nat_le (length (slot_text R.shape R.most (slot R store k))) room) (by_rack BufferTooShort) None)))

abbrev pub due : Rack → List ℕ → Call → Option Refusal
due R store c = due_by (is_taken R store) R store c

pub data Write : Type 0 where
  table : ℕ → Automaton → Write
  zeros : ℕ → Write
  nothing : Write

abbrev pub write : Rack → List ℕ → Call → Write
write R store (call_atom k A l) = table k (atom_automaton R.shape A)
write R store (call_not k x l) = table k (not_layer (slot_machine R store x))
write R store (call_both k x y l) = table k (pair_layer ◌&&◌ (slot_machine R store x) (slot_machine R store y))
write R store (call_either k x y l) = table k (pair_layer ◌||◌ (slot_machine R store x) (slot_machine R store y))
write R store (call_some k x i l) = table k (some_layer i (slot_machine R store x))
write R store (call_take k M l) = table k M
write R store (call_drop k) = zeros k
write R store (call_judge k bs places) = nothing
write R store (call_list k room) = nothing

pub data Outcome : Type 0 where
  refused : Refusal → Outcome
  filled : List ℕ → Outcome
  judged : Bool → Outcome
  listed : List ℕ → Outcome

-- slot k has the table of M, and all else is as it was
pub record Placed (R : Rack) (store : List ℕ) (k : ℕ) (M : Automaton) (after : List ℕ) : Type 0 where
  pub few : ¬ TooMany M R.most
  pub states : ℕ
  pub bytes : List ℕ
  pub held : TableIn M R.most states bytes
  pub is : after ≡ put_slot R k bytes store

abbrev pub Crowded : Rack → Write → Type 0
Crowded R (table k M) = TooMany M R.most
Crowded R (zeros k) = ⊥
Crowded R nothing = ⊥

abbrev pub Written : Rack → List ℕ → Write → List ℕ → Type 0
Written R store (table k M) after = Placed R store k M after
Written R store (zeros k) after = after ≡ put_slot R k (replicate (slot_bytes R) 0) store
Written R store nothing after = ⊥

abbrev pub Judges : Rack → List ℕ → Call → Bool → Type 0
Judges R store (call_atom k A l) b = ⊥
Judges R store (call_not k x l) b = ⊥
Judges R store (call_both k x y l) b = ⊥
Judges R store (call_either k x y l) b = ⊥
Judges R store (call_some k x i l) b = ⊥
Judges R store (call_take k M l) b = ⊥
Judges R store (call_drop k) b = ⊥
Judges R store (call_judge k bs places) b = (t : Tree) × Reads R.shape (λ n. ltb n places) bs t × (b ≡ accepts (slot_machine R store k) t)
Judges R store (call_list k room) b = ⊥

abbrev pub Lists : Rack → List ℕ → Call → List ℕ → Type 0
Lists R store (call_atom k A l) text = ⊥
Lists R store (call_not k x l) text = ⊥
Lists R store (call_both k x y l) text = ⊥
Lists R store (call_either k x y l) text = ⊥
Lists R store (call_some k x i l) text = ⊥
Lists R store (call_take k M l) text = ⊥
Lists R store (call_drop k) text = ⊥
Lists R store (call_judge k bs places) text = ⊥
Lists R store (call_list k room) text = text ≡ slot_text R.shape R.most (slot R store k)

abbrev pub Effect : Rack → List ℕ → Call → Outcome → Type 0
Effect R store c (refused e) = (due R store c ≡ Some e) ⊎ ((due R store c ≡ None) × (e ≡ by_rack TooManyStates) × Crowded R (write R store c))
Effect R store c (filled after) = (due R store c ≡ None) × Written R store (write R store c) after
Effect R store c (judged b) = (due R store c ≡ None) × Judges R store c b
Effect R store c (listed text) = (due R store c ≡ None) × Lists R store c text

abbrev pub store_after : List ℕ → Outcome → List ℕ
store_after store (refused e) = store
store_after store (filled after) = after
store_after store (judged b) = store
store_after store (listed text) = store

abbrev pub answered_by : Outcome → Bool
answered_by (refused e) = false
answered_by (filled after) = true
answered_by (judged b) = true
answered_by (listed text) = true
