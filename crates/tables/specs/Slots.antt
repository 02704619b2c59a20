-- A slot's bytes as an automaton, whatever they are.
-- Words:
--   answering ok       the automaton of the bytes: final where the final byte is 1; idle, with one code, where not ok
--   slot_automaton     the automaton of a slot: it answers where shape and N are within their limits
--   slot_table         its table, as it stands
use Rattle.std.specs.Prelude.{ℕ, ◌+◌, Bool, cond, ◌&&◌, List, ◌==◌, slice_index}
use Rattle.trees.specs.declared.shape.Shape.{Shape}
use Rattle.automata.specs.Automata.{Automaton}
use Rattle.automata.specs.Atoms.{guarded}
use Rattle.automata.specs.Numbering.{Table, own_table}
use Rattle.tables.specs.Images.{states_of, kept, leaf_address, inner_address, fits}

abbrev pub codes : Bool → ℕ → List ℕ → ℕ
codes ok N bs = cond ok (states_of N bs) 1

abbrev pub answering : Bool → Shape → ℕ → List ℕ → Automaton
answering ok sh N bs =
    guarded sh (codes ok N bs)
    (λ a m. cond ok (kept (states_of N bs) (slice_index bs (leaf_address sh N a m))) 0)
    (λ a m x y. cond ok (kept (states_of N bs) (slice_index bs (inner_address sh N a m x y))) 0)
    (λ x. ok && slice_index bs (1 + x) == 1)

abbrev pub slot_automaton : Shape → ℕ → List ℕ → Automaton
slot_automaton sh N bs = answering (fits sh N) sh N bs

abbrev pub slot_table : Shape → ℕ → List ℕ → Table
slot_table sh N bs = own_table (slot_automaton sh N bs)
