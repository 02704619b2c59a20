-- The machine of a slot.
-- Words:
--   Answers R log store k M    M accepts exactly the trees of which the rule holds that the log gives to slot k
--   Asks R store k r           what asking slot k for its machine answers: 3 or 5, or a machine that is the slot's automaton, and right by every log that
--                              rack and store are kept under
use Rattle.std.specs.Prelude.{◌≡◌, ℕ, T, ◌↔◌, List, Some, None, Ok, Err, Result}
use Rattle.trees.specs.declared.refusal.Refusal.{Refusal}
use Rattle.trees.specs.Trees.{Tree, Shaped}
use Rattle.automata.specs.Automata.{Automaton, accepts}
use Rattle.automata.specs.Rules.{Rule, Holds}
use Rattle.slots.specs.declared.layout.Layout.{Layout}
use Rattle.machines.specs.declared.table.SlotBytes.{SlotBytes}
use Rattle.racks.specs.declared.rack.Rack.{Rack}
use Rattle.racks.specs.Racks.{slot_machine, is_taken}
use Rattle.racks.specs.Calls.{check_open, check_slot, check_full}
use Rattle.racks.specs.Log.{Log, logged, KeptIn}
use Rattle.filling.specs.Fillings.{table_meaning}

abbrev pub Answers : Rack → Log → ℕ → Automaton → Type 0
Answers R log k M = (r : Rule) × (logged log k ≡ Some r) × ((t : Tree) → Shaped R.shape t → T (accepts M t) ↔ Holds r t)

abbrev pub Asks : Rack → List ℕ → ℕ → Result (SlotBytes Layout) Refusal → Type 0
Asks R store k (Ok table) =
    (check_open R store (check_slot R k (check_full (is_taken R store) k None)) ≡ None) × (table_meaning table ≡ slot_machine R store k)
    × ((log : Log) → KeptIn R log store → Answers R log k (table_meaning table))
Asks R store k (Err e) = check_open R store (check_slot R k (check_full (is_taken R store) k None)) ≡ Some e
