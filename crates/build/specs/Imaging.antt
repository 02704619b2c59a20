-- The writing of the classes' table over the cells of the codes.
-- Words:
--   Appears cls n k               each number below k is a class of an index below n, and those before its first index are of lower classes
--   Firsts cls n k firsts         firsts has the first index of each class
--   Filled base n f before after  n bytes from base on are those of f, and the others are as before
--   final_byte                    the byte of a state's final flag, 0 where there is no such state
--   leaf_byte                     the class of the index in a leaf cell
--   of_states N k j               whether the inner cell j is of two states
--   source_at l firsts j          where the cell of the first indices of these states stands
--   inner_byte                    the class of the index there, 0 where there are no such states
--   serves M N codes cells classes
--                                 the shape and N are within their limits, and memory is lent for N codes, the image, and two classes for each of N codes
--   Built M N k cells             the first cells are the image of M's table, which has k states, and no more than N codes are reached
use Rattle.std.specs.Prelude.{◌≡◌, ℕ, ◌+◌, ◌*◌, ◌/◌, ◌%◌, ◌^◌, ◌<◌, ◌≤◌, Bool, cond, ◌&&◌, ◌⊎◌, List, take, nat_le, nat_lt, slice_index}
use Rattle.automata.specs.Automata.{Automaton}
use Rattle.automata.specs.Atoms.{one_if}
use Rattle.automata.specs.Numbering.{Table}
use Rattle.tables.specs.Tables.{TableOf, TooMany}
use Rattle.tables.specs.Exploring.{code_at}
use Rattle.tables.specs.Images.{width, inner_address, Image, fits}
use Rattle.build.specs.Refinement.{class_at}
use Rattle.slots.specs.declared.layout.Layout.{Layout}

abbrev pub Appears : List ℕ → ℕ → ℕ → Type 0
Appears cls n k = (s : ℕ) → s < k → (i : ℕ) × (i < n) × (class_at cls i ≡ s) × ((x : ℕ) → x < i → class_at cls x < s)

pub record Firsts (cls : List ℕ) (n k : ℕ) (firsts : List ℕ) : Type 0 where
  pub within : (s : ℕ) → s < k → slice_index firsts s < n
  pub is : (s : ℕ) → s < k → class_at cls (slice_index firsts s) ≡ s
  pub before : (s x : ℕ) → s < k → x < slice_index firsts s → class_at cls x < s

pub record Filled (base n : ℕ) (f : ℕ → ℕ) (before after : List ℕ) : Type 0 where
  pub inside : (i : ℕ) → i < n → slice_index after (base + i) ≡ f i
  pub outside : (j : ℕ) → (j < base) ⊎ (base + n ≤ j) → slice_index after j ≡ slice_index before j

abbrev pub final_byte : Automaton → List ℕ → List ℕ → ℕ → ℕ → ℕ
final_byte M codes firsts k s = one_if (nat_lt s k && M.final (code_at codes (slice_index firsts s)))

abbrev pub leaf_byte : Layout → List ℕ → List ℕ → ℕ → ℕ
leaf_byte l cells cls row = class_at cls (slice_index cells (1 + l.most + row))

abbrev pub of_states : ℕ → ℕ → ℕ → Bool
of_states N k j = nat_lt (j / N % N) k && nat_lt (j % N) k

abbrev pub source_at : Layout → List ℕ → ℕ → ℕ
source_at l firsts j =
    inner_address l.shape l.most (l.shape.leaves + j / (l.most * l.most) / 2 ^ l.shape.tracks) (j / (l.most * l.most) % 2 ^ l.shape.tracks)
    (slice_index firsts (j / l.most % l.most)) (slice_index firsts (j % l.most))

abbrev pub inner_byte : Layout → ℕ → List ℕ → List ℕ → List ℕ → ℕ → ℕ
inner_byte l k cells cls firsts j = cond (of_states l.most k j) (class_at cls (slice_index cells (source_at l firsts j))) 0

abbrev pub serves : Automaton → ℕ → ℕ → ℕ → ℕ → Bool
serves M N codes cells classes = fits M.shape N && (nat_le N codes && (nat_le (width M.shape N) cells && nat_le (2 * N) classes))

pub record Built (M : Automaton) (N k : ℕ) (cells : List ℕ) : Type 0 where
  pub table : Table
  pub right : TableOf M table
  pub states : table.states ≡ k
  pub enough : ¬ TooMany M N
  pub image : Image M.shape N table (take (width M.shape N) cells)
