-- The automaton of a slot's bytes is lawful, whatever they are.
use Rattle.std.specs.Prelude.{ℕ, List}
use Rattle.trees.specs.declared.shape.Shape.{Shape}
use Rattle.automata.specs.Automata.{Lawful}
use Rattle.tables.specs.SlotLaws.{answering_lawful}
use Rattle.slots.specs.Sizes.{sized, sized_few}
use Rattle.machines.specs.Slots.{slot_automaton}

pub slot_lawful : (sh : Shape) (N : ℕ) (bs : List ℕ) → Lawful (slot_automaton sh N bs)
slot_lawful sh N bs = answering_lawful (sized sh N) sh N bs (sized_few sh N)
