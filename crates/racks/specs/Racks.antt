-- Racks, and the slots of a store.
-- Words:
--   rack_fits R             the shape is within its limits, N is 4 to 32 and S is 1 to 16
--   slot_bytes R            W, the number of bytes of a slot
--   store_bytes R           S × W
--   slot R store k          the bytes of slot k
--   put_slot R k bs store   the store with bs in slot k
--   is_taken R store k      slot k holds a table: its first byte is not 0
--   slot_machine R store k  the automaton of slot k
use Rattle.std.specs.Prelude.{ℕ, ◌+◌, ◌*◌, Bool, ◌&&◌, List, ◌++◌, take, drop, nat_lt, slice_index}
use Rattle.trees.specs.Shapes.{limits, within}
use Rattle.automata.specs.Automata.{Automaton}
use Rattle.tables.specs.Images.{width}
use Rattle.tables.specs.Slots.{slot_automaton}
use Rattle.racks.specs.declared.rack.Rack.{Rack}

abbrev pub rack_fits : Rack → Bool
rack_fits R = limits R.shape.leaves R.shape.inners R.shape.tracks && (within 4 32 R.most && within 1 16 R.slots)

abbrev pub slot_bytes : Rack → ℕ
slot_bytes R = width R.shape R.most

abbrev pub store_bytes : Rack → ℕ
store_bytes R = R.slots * slot_bytes R

abbrev pub slot : Rack → List ℕ → ℕ → List ℕ
slot R store k = take (slot_bytes R) (drop (k * slot_bytes R) store)

abbrev pub put_slot : Rack → ℕ → List ℕ → List ℕ → List ℕ
put_slot R k bs store = take (k * slot_bytes R) store ++ (bs ++ drop (k * slot_bytes R + slot_bytes R) store)

abbrev pub is_taken : Rack → List ℕ → ℕ → Bool
is_taken R store k = nat_lt 0 (slice_index store (k * slot_bytes R))

abbrev pub slot_machine : Rack → List ℕ → ℕ → Automaton
slot_machine R store k = slot_automaton R.shape R.most (slot R store k)
