-- A table as the bytes of a slot.
-- Words:
--   leaf_rows sh, inner_rows sh    the number of leaf steps, and of inner steps over each pair: a row for each label and marks
--   width sh N             the number of bytes: one for the number of states, N finals, the leaf cells, the inner cells over N states
--   leaf_address, inner_address    where the cell of a step stands: leaf cells by label and marks, then inner cells by label, marks, left and right state
--   address sh N q         where the cell of a question stands
--   fits sh N, Fits sh N   the shape is within its limits, and there is room for 1 to 32 states: as a test, and as facts
--   Image sh N T bs        bs holds T: each byte at its address, and 0 at the addresses of unused states
--   states_of N bs         the number of states: the first byte, made at least 1 and at most N
--   kept c x               a cell that is no state below c reads as 0
--   bytes_automaton        the automaton of the bytes, whatever they are: final where the final byte is 1
use Rattle.std.specs.Prelude.{◌≡◌, ℕ, ◌+◌, ◌-◌, ◌*◌, ◌^◌, ◌<◌, ◌≤◌, min, max, Bool, cond, ◌&&◌, ◌⊎◌, List, length, nat_eq, nat_lt, slice_index, slice_index_or}
use Rattle.trees.specs.declared.shape.Shape.{Shape}
use Rattle.trees.specs.Shapes.{within, limits, Limited, LeafLabel, InnerLabel, Marks}
use Rattle.automata.specs.Automata.{Automaton}
use Rattle.automata.specs.Atoms.{guarded, one_if}
use Rattle.automata.specs.Numbering.{Table, Question, at_leaf, at_inner}

abbrev pub leaf_rows : Shape → ℕ
leaf_rows sh = sh.leaves * 2 ^ sh.tracks

abbrev pub inner_rows : Shape → ℕ
inner_rows sh = sh.inners * 2 ^ sh.tracks

abbrev pub width : Shape → ℕ → ℕ
width sh N = 1 + N + sh.leaves * 2 ^ sh.tracks + sh.inners * 2 ^ sh.tracks * N * N

abbrev pub leaf_address : Shape → ℕ → ℕ → ℕ → ℕ
leaf_address sh N a m = 1 + N + (a * 2 ^ sh.tracks + m)

abbrev pub inner_address : Shape → ℕ → ℕ → ℕ → ℕ → ℕ → ℕ
inner_address sh N a m x y = 1 + N + sh.leaves * 2 ^ sh.tracks + (((a - sh.leaves) * 2 ^ sh.tracks + m) * (N * N) + x * N + y)

abbrev pub address : Shape → ℕ → Question → ℕ
address sh N (at_leaf a m) = leaf_address sh N a m
address sh N (at_inner a m x y) = inner_address sh N a m x y

abbrev pub fits : Shape → ℕ → Bool
fits sh N = limits sh.leaves sh.inners sh.tracks && within 1 32 N

pub record Fits (sh : Shape) (N : ℕ) : Type 0 where
  pub shape : Limited sh
  pub some : 1 ≤ N
  pub few : N ≤ 32

pub record Image (sh : Shape) (N : ℕ) (T : Table) (bs : List ℕ) : Type 0 where
  pub few : T.states ≤ N
  pub long : length bs ≡ width sh N
  pub states : slice_index_or bs 0 0 ≡ T.states
  pub final : (s : ℕ) → s < T.states → slice_index bs (1 + s) ≡ one_if (T.final s)
  pub unused_final : (s : ℕ) → T.states ≤ s → s < N → slice_index bs (1 + s) ≡ 0
  pub leaf_cell : (a m : ℕ) → LeafLabel sh a → Marks sh m → slice_index bs (leaf_address sh N a m) ≡ T.leaf_cell a m
  pub inner_cell : (a m x y : ℕ) → InnerLabel sh a → Marks sh m → x < T.states → y < T.states
      → slice_index bs (inner_address sh N a m x y) ≡ T.inner_cell a m x y
  pub unused_inner : (a m x y : ℕ) → InnerLabel sh a → Marks sh m → x < N → y < N → (T.states ≤ x) ⊎ (T.states ≤ y)
      → slice_index bs (inner_address sh N a m x y) ≡ 0

abbrev pub states_of : ℕ → List ℕ → ℕ
states_of N bs = max (min (slice_index bs 0) N) 1

abbrev pub kept : ℕ → ℕ → ℕ
kept c x = cond (nat_lt x c) x 0

abbrev pub bytes_automaton : Shape → ℕ → List ℕ → Automaton
bytes_automaton sh N bs =
    guarded sh (states_of N bs)
    (λ a m. kept (states_of N bs) (slice_index bs (leaf_address sh N a m)))
    (λ a m x y. kept (states_of N bs) (slice_index bs (inner_address sh N a m x y)))
    (λ x. nat_eq (slice_index bs (1 + x)) 1)
