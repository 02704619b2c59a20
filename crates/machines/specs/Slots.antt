-- The automaton of a slot's bytes, whatever they are.
-- Words:
--   slot_automaton     the automaton: final where the final byte is 1; idle, with one code, where the numbers are not small enough for addresses
use Rattle.std.specs.Prelude.{ℕ, List}
use Rattle.trees.specs.declared.shape.Shape.{Shape}
use Rattle.automata.specs.Automata.{Automaton}
use Rattle.tables.specs.Slots.{answering}
use Rattle.slots.specs.Sizes.{sized}

abbrev pub slot_automaton : Shape → ℕ → List ℕ → Automaton
slot_automaton sh N bs = answering (sized sh N) sh N bs
