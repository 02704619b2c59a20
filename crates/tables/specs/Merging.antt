-- The second stage of building a table: the codes found, parted into classes of alike ones.
-- Words:
--   Told M x y              some open place tells the codes x and y apart
--   Stable M codes E class  codes of one class are final together, and steps on them have one class
--   Merged M codes E k class first
--                           class gives each index its state, one of k, numbered as the classes first appear; first gives each state its first index
--   merged_table            the table of the classes
use Rattle.std.specs.Prelude.{◌≡◌, ℕ, ◌<◌, ◌≢◌, ◌↔◌}
use Rattle.trees.specs.Shapes.{InnerLabel, Marks}
use Rattle.automata.specs.Automata.{Automaton, Context, ContextShaped, code_in, Alike}
use Rattle.automata.specs.Numbering.{Table}

abbrev pub Told : Automaton → ℕ → ℕ → Type 0
Told M x y = (c : Context) × ContextShaped M.shape c × (M.final (code_in M c x) ≢ M.final (code_in M c y))

pub record Stable (M : Automaton) (codes : ℕ → ℕ) (E : Table) (class : ℕ → ℕ) : Type 0 where
  pub final : (x y : ℕ) → x < E.states → y < E.states → class x ≡ class y → M.final (codes x) ≡ M.final (codes y)
  pub left_step : (a m x y z : ℕ) → InnerLabel M.shape a → Marks M.shape m → x < E.states → y < E.states → z < E.states → class x ≡ class y
      → class (E.inner_cell a m x z) ≡ class (E.inner_cell a m y z)
  pub right_step : (a m x y z : ℕ) → InnerLabel M.shape a → Marks M.shape m → x < E.states → y < E.states → z < E.states → class x ≡ class y
      → class (E.inner_cell a m z x) ≡ class (E.inner_cell a m z y)

pub record Merged (M : Automaton) (codes : ℕ → ℕ) (E : Table) (k : ℕ) (class first : ℕ → ℕ) : Type 0 where
  pub class_in : (x : ℕ) → x < E.states → class x < k
  pub first_in : (s : ℕ) → s < k → first s < E.states
  pub first_is : (s : ℕ) → s < k → class (first s) ≡ s
  pub before : (s x : ℕ) → s < k → x < first s → class x < s
  pub classes : (x y : ℕ) → x < E.states → y < E.states → (class x ≡ class y) ↔ Alike M (codes x) (codes y)

abbrev pub merged_table : Automaton → (ℕ → ℕ) → Table → ℕ → (ℕ → ℕ) → (ℕ → ℕ) → Table
merged_table M codes E k class first = record {
  states = k;
  final = λ s. M.final (codes (first s));
  leaf_cell = λ a m. class (E.leaf_cell a m);
  inner_cell = λ a m x y. class (E.inner_cell a m (first x) (first y));
}
