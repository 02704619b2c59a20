-- The first stage of building a table: the reached codes, each once, in the order of discovery.
-- Words:
--   code_at cs i         the code at index i
--   ask M codes q        the code that M answers q with, where q is over indices of codes
--   Known cs n x         x stands in cs at an index below n
--   FoundAt M cs s q     the code at s is found at q: q is over indices before, its answer is that code, and all answers at earlier places stand before
--   Upto M cs p          cs has exactly what the questions before place p are answered with, each code once and in the order of discovery
--   Explored M codes E   E is M over the indices of codes: each cell has the index of the code that is answered, and the indices are numbered as first met
use Rattle.std.specs.Prelude.{◌≡◌, ℕ, ◌<◌, List, length, slice_index}
use Rattle.automata.specs.Automata.{Automaton}
use Rattle.automata.specs.Numbering.{Table, Question, at_leaf, at_inner, answer, Over, place, FirstMet}
use Rattle.tables.specs.Tables.{Closed}

abbrev pub code_at : List ℕ → ℕ → ℕ
code_at cs i = slice_index cs i

abbrev pub ask : Automaton → (ℕ → ℕ) → Question → ℕ
ask M codes (at_leaf a m) = M.leaf_step a m
ask M codes (at_inner a m x y) = M.inner_step a m (codes x) (codes y)

abbrev pub Known : List ℕ → ℕ → ℕ → Type 0
Known cs n x = (i : ℕ) × (i < n) × (code_at cs i ≡ x)

pub record FoundAt (M : Automaton) (cs : List ℕ) (s : ℕ) (q : Question) : Type 0 where
  pub over : Over M.shape s q
  pub is : ask M (code_at cs) q ≡ code_at cs s
  pub first : (q' : Question) → Over M.shape (length cs) q' → place M.shape q' < place M.shape q → Known cs s (ask M (code_at cs) q')

pub record Upto (M : Automaton) (cs : List ℕ) (p : ℕ) : Type 0 where
  pub apart : (i j : ℕ) → i < length cs → j < length cs → code_at cs i ≡ code_at cs j → i ≡ j
  pub asked : (q : Question) → Over M.shape (length cs) q → place M.shape q < p → Known cs (length cs) (ask M (code_at cs) q)
  pub found : (s : ℕ) → s < length cs → (q : Question) × (place M.shape q < p) × FoundAt M cs s q

pub record Explored (M : Automaton) (codes : ℕ → ℕ) (E : Table) : Type 0 where
  pub inside : Closed M.shape E
  pub is : (q : Question) → Over M.shape E.states q → codes (answer E q) ≡ ask M codes q
  pub apart : (x y : ℕ) → x < E.states → y < E.states → codes x ≡ codes y → x ≡ y
  pub met : FirstMet M.shape E
