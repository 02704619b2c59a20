-- The discovery of the reached codes, and how far it has come.
-- Words:
--   codes_found d               the codes that d has found, in the order of discovery
--   Met before after x i        x stands at i of the codes found after, and either they are those before, or x is new and their last
--   Full cs N x                 x is new, and N codes are found already
--   Kept before after           what is found stays in one place: the layout and the lent memory are the same, and no code is lost
--   Noted before after j x      x is met, and the cell at j has its index
--   Sofar M N cs cells p        every question before place p is asked: cs is what they found, and their cells have the indices of the answers
--   Discovering M d p           d is of M's shape, and every question of M before place p is asked
--   Ready M l codes cells       the layout is the machine's, and enough memory is lent
--   index_table                 the table over the indices of codes that the cells hold
--   Discovered M N len codes cells
--                               the first len codes, at most N, are all that are reached, numbered as first met, and the cells are theirs
use Rattle.std.specs.Prelude.{◌≡◌, ℕ, ◌<◌, ◌≤◌, ◌⊎◌, List, [], ◌∷◌, ◌++◌, length, take, slice_index, slice_set}
use Rattle.automata.specs.Automata.{Automaton}
use Rattle.automata.specs.Numbering.{Table, Question, at_leaf, at_inner, Over, place}
use Rattle.tables.specs.Exploring.{code_at, ask, Known, Upto, Explored}
use Rattle.tables.specs.Images.{width, address}
use Rattle.slots.specs.declared.layout.Layout.{Layout}
use Rattle.build.specs.declared.found.Found.{Found}

abbrev pub codes_found : Found → List ℕ
codes_found d = take d.len d.codes.now

pub record Met (before after : List ℕ) (x i : ℕ) : Type 0 where
  pub is : code_at after i ≡ x
  pub within : i < length after
  pub grown : (after ≡ before) ⊎ ((¬ Known before (length before) x) × (after ≡ before ++ (x ∷ [])))

pub record Full (cs : List ℕ) (N x : ℕ) : Type 0 where
  pub full : length cs ≡ N
  pub new : ¬ Known cs (length cs) x

pub record Kept (before after : Found) : Type 0 where
  pub layout : after.layout ≡ before.layout
  pub codes : after.codes.ghost_name ≡ before.codes.ghost_name
  pub cells : after.cells.ghost_name ≡ before.cells.ghost_name
  pub more : before.len ≤ after.len

pub record Noted (before after : Found) (j x : ℕ) : Type 0 where
  pub index : ℕ
  pub met : Met (codes_found before) (codes_found after) x index
  pub cell : after.cells.now ≡ slice_set before.cells.now j index

pub record Sofar (M : Automaton) (N : ℕ) (cs cells : List ℕ) (p : ℕ) : Type 0 where
  pub room : length cs ≤ N
  pub upto : Upto M cs p
  pub written : (q : Question) → Over M.shape (length cs) q → place M.shape q < p
      → (slice_index cells (address M.shape N q) < length cs) × (code_at cs (slice_index cells (address M.shape N q)) ≡ ask M (code_at cs) q)

pub record Discovering (M : Automaton) (d : Found) (p : ℕ) : Type 0 where
  pub shape : d.layout.shape ≡ M.shape
  pub sofar : Sofar M d.layout.most (codes_found d) d.cells.now p

pub record Ready (M : Automaton) (l : Layout) (codes cells : ℕ) : Type 0 where
  pub shape : l.shape ≡ M.shape
  pub codes_lent : l.most ≤ codes
  pub cells_lent : width l.shape l.most ≤ cells

abbrev pub index_table : Automaton → ℕ → ℕ → List ℕ → List ℕ → Table
index_table M N len codes cells = record {
  states = len;
  final = λ s. M.final (code_at codes s);
  leaf_cell = λ a m. slice_index cells (address M.shape N (at_leaf a m));
  inner_cell = λ a m x y. slice_index cells (address M.shape N (at_inner a m x y));
}

pub record Discovered (M : Automaton) (N len : ℕ) (codes cells : List ℕ) : Type 0 where
  pub room : len ≤ N
  pub all : Explored M (code_at codes) (index_table M N len codes cells)
