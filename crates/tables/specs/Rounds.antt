-- How classes are found: parted by finals first, then by steps, until a round parts none.
-- Words:
--   Agree M E class x y        x and y are of one class, and so are steps on them
--   Numbering R f n k          f numbers the indices below n by the classes of R, with k numbers, as the classes first appear
--   Coarse M codes E class k   alike codes are of one class, codes of one class are final together, and each number below k is a class
use Rattle.std.specs.Prelude.{◌≡◌, ℕ, ◌<◌, ◌≤◌, ◌↔◌}
use Rattle.trees.specs.Shapes.{InnerLabel, Marks}
use Rattle.automata.specs.Automata.{Automaton, Alike}
use Rattle.automata.specs.Numbering.{Table}

pub record Agree (M : Automaton) (E : Table) (class : ℕ → ℕ) (x y : ℕ) : Type 0 where
  pub here : class x ≡ class y
  pub left : (a m z : ℕ) → InnerLabel M.shape a → Marks M.shape m → z < E.states → class (E.inner_cell a m x z) ≡ class (E.inner_cell a m y z)
  pub right : (a m z : ℕ) → InnerLabel M.shape a → Marks M.shape m → z < E.states → class (E.inner_cell a m z x) ≡ class (E.inner_cell a m z y)

pub record Numbering (R : ℕ → ℕ → Type 0) (f : ℕ → ℕ) (n k : ℕ) : Type 0 where
  pub few : k ≤ n
  pub below : (x : ℕ) → x < n → f x < k
  pub first : (s : ℕ) → s < k → (i : ℕ) × (i < n) × (f i ≡ s) × ((x : ℕ) → x < i → f x < s)
  pub same : (x y : ℕ) → x < n → y < n → (f x ≡ f y) ↔ R x y

pub record Coarse (M : Automaton) (codes : ℕ → ℕ) (E : Table) (class : ℕ → ℕ) (k : ℕ) : Type 0 where
  pub alike : (x y : ℕ) → x < E.states → y < E.states → Alike M (codes x) (codes y) → class x ≡ class y
  pub finals : (x y : ℕ) → x < E.states → y < E.states → class x ≡ class y → M.final (codes x) ≡ M.final (codes y)
  pub spread : (s : ℕ) → s < k → (i : ℕ) × (i < E.states) × (class i ≡ s)
