-- What the parts of a call that fills a slot promise.
-- Words:
--   table_meaning             what a table over a slot's bytes means
--   SameMemory v w            w is the memory v
--   MadeTable R M cells       the first cells are the image of M's table, and no more than N codes are reached
--   Makes s M l cells r       what a build for slot s answers: 8 where too little memory is lent, 9 where too many codes are reached, or the table made and
--                             where it goes
--   MakesAtom s A l cells r   the same for an atom, after its own refusals
--   Fills R store k c cells r    what the build of call c answers: a refusal that is its effect, or where slot k is, and it is the effect of c that the first
--                             cells be put there
--   CallsPair op call         the call writes the table of two slots' automata joined by op, after the checks of a call with two sources
use Rattle.std.specs.Prelude.{◌≡◌, ℕ, ◌+◌, ◌*◌, ◌≤◌, Bool, ◌⊎◌, List, [], ◌∷◌, length, take, Some, None, Ok, Err, Result}
use Rattle.trees.specs.declared.refusal.Reason.TheVariants.{TooManyStates}
use Rattle.trees.specs.declared.refusal.Refusal.{Refusal}
use Rattle.automata.specs.Automata.{Automaton}
use Rattle.automata.specs.Rules.{Atom}
use Rattle.automata.specs.Atoms.{atom_automaton}
use Rattle.automata.specs.Layers.{pair_layer}
use Rattle.tables.specs.Tables.{TooMany}
use Rattle.tables.specs.Slots.{slot_automaton}
use Rattle.tables.specs.Canonical.{TableIn}
use Rattle.slots.specs.declared.layout.Layout.{Layout}
use Rattle.machines.specs.declared.table.SlotBytes.{SlotBytes}
use Rattle.atoms.specs.Making.{atom_refusal}
use Rattle.racks.specs.declared.rack.Rack.{Rack}
use Rattle.racks.specs.declared.working.Working.{Working}
use Rattle.racks.specs.Racks.{slot_bytes, put_slot, slot_machine}
use Rattle.racks.specs.Calls.{Lent, Call, by_rack, check_lent, due, write, table, refused, filled, Effect}
use Rattle.store.specs.declared.slot.Slot.{Slot}
use Rattle.store.specs.declared.slot.Place.{Place}
use Rattle.store.specs.Checks.{IsPlace, ready_chain}

abbrev pub table_meaning : SlotBytes Layout → Automaton
table_meaning s = slot_automaton s.shape s.most s.bytes.now

pub record SameMemory (old new : Working) : Type 0 where
  pub codes : new.codes.ghost_name ≡ old.codes.ghost_name
  pub cells : new.cells.ghost_name ≡ old.cells.ghost_name
  pub classes : new.classes.ghost_name ≡ old.classes.ghost_name

pub record MadeTable (R : Rack) (M : Automaton) (cells : List ℕ) : Type 0 where
  pub room : slot_bytes R ≤ length cells
  pub few : ¬ TooMany M R.most
  pub states : ℕ
  pub held : TableIn M R.most states (take (slot_bytes R) cells)

abbrev pub Makes : Slot → Automaton → Lent → List ℕ → Result Place Refusal → Type 0
Makes s M l cells (Ok p) = (check_lent s.slots.rack l ≡ None) × IsPlace s p × MadeTable s.slots.rack M cells
Makes s M l cells (Err e) =
    (check_lent s.slots.rack l ≡ Some e) ⊎ ((check_lent s.slots.rack l ≡ None) × (e ≡ by_rack TooManyStates) × TooMany M s.slots.rack.most)

abbrev pub MakesAtom : Slot → Atom → Lent → List ℕ → Result Place Refusal → Type 0
MakesAtom s A l cells (Ok p) = (atom_refusal s.slots.rack.shape A ≡ None) × Makes s (atom_automaton s.slots.rack.shape A) l cells (Ok p)
MakesAtom s A l cells (Err e) =
    (atom_refusal s.slots.rack.shape A ≡ Some e) ⊎ ((atom_refusal s.slots.rack.shape A ≡ None) × Makes s (atom_automaton s.slots.rack.shape A) l cells (Err e))

abbrev pub Fills : Rack → List ℕ → ℕ → Call → List ℕ → Result Place Refusal → Type 0
Fills R store k c cells (Ok p) =
    (p.start ≡ k * slot_bytes R) × (p.width ≡ slot_bytes R) × (p.start + p.width ≤ length store) × (p.width ≤ length cells)
    × Effect R store c (filled (put_slot R k (take (slot_bytes R) cells) store))
Fills R store k c cells (Err e) = Effect R store c (refused e)

pub record CallsPair (op : Bool → Bool → Bool) (call : ℕ → ℕ → ℕ → Lent → Call) : Type 0 where
  pub write : (R : Rack) (store : List ℕ) (k x y : ℕ) (l : Lent) → write R store (call k x y l) ≡ table k (pair_layer op (slot_machine R store x) (slot_machine R store y))
  pub due : (R : Rack) (store : List ℕ) (k x y : ℕ) (l : Lent) → due R store (call k x y l) ≡ ready_chain R store k (x ∷ y ∷ []) (check_lent R l)
