-- Slots that hold the table of an automaton.
-- Words:
--   slot_text sh N bs          the listing of the slot's table
--   TableIn M N k bs           the bytes are the image of M's table, which has k states
--   CanonicalSlot M N k bs     what such bytes owe: as an automaton they accept what M accepts; their codes are states, k of them, all reached and no two
--                              alike, numbered as first met; they hold their own table; no lawful automaton does with fewer codes; another slot has the same
--                              bytes, or, with room for any number of states, the same listing, exactly if its automaton accepts the same trees
use Rattle.std.specs.Prelude.{◌≡◌, ℕ, ◌≤◌, true, ◌↔◌, List}
use Rattle.trees.specs.declared.shape.Shape.{Shape}
use Rattle.automata.specs.Automata.{Automaton, Lawful}
use Rattle.automata.specs.Numbering.{Table, CodesAreStates}
use Rattle.tables.specs.Tables.{TableOf, AcceptSame}
use Rattle.tables.specs.Images.{fits, Image}
use Rattle.tables.specs.Slots.{slot_automaton, slot_table}
use Rattle.tables.specs.Texts.{table_text}

abbrev pub slot_text : Shape → ℕ → List ℕ → List ℕ
slot_text sh N bs = table_text sh (slot_table sh N bs)

pub record TableIn (M : Automaton) (N k : ℕ) (bs : List ℕ) : Type 0 where
  pub table : Table
  pub right : TableOf M table
  pub states : table.states ≡ k
  pub image : Image M.shape N table bs

pub record CanonicalSlot (M : Automaton) (N k : ℕ) (bs : List ℕ) : Type 0 where
  pub accepts : AcceptSame (slot_automaton M.shape N bs) M
  pub count : (slot_automaton M.shape N bs).count ≡ k
  pub states : CodesAreStates (slot_automaton M.shape N bs)
  pub itself : TableIn (slot_automaton M.shape N bs) N k bs
  pub fewest : (M' : Automaton) → M.shape ≡ M'.shape → Lawful M' → AcceptSame M M' → k ≤ M'.count
  pub same : (M' : Automaton) (k' : ℕ) (cs : List ℕ) → M.shape ≡ M'.shape → TableIn M' N k' cs → (bs ≡ cs) ↔ AcceptSame M M'
  pub told : (M' : Automaton) (N' k' : ℕ) (cs : List ℕ) → M.shape ≡ M'.shape → fits M.shape N' ≡ true → TableIn M' N' k' cs
      → (slot_text M.shape N bs ≡ slot_text M.shape N' cs) ↔ AcceptSame M M'
