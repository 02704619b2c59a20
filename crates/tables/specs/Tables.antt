-- The table of an automaton.
-- Words:
--   SameTable sh A B     two tables with the same states, finals and cells, as far as the shape asks
--   Closed sh T          every cell that the shape asks for is a state
--   table_automaton      a table as an automaton over its states
--   TableOf M T          T is the table of M: its states are the classes of alike reached codes, numbered as first met
--   AcceptSame M M'      the same trees of the shape are accepted
--   TooMany M N          more than N codes are reached: N + 1 marked trees have codes that all differ
use Rattle.std.specs.Prelude.{◌≡◌, ℕ, ◌<◌, ◌≤◌, ◌≢◌, ◌↔◌}
use Rattle.trees.specs.declared.shape.Shape.{Shape}
use Rattle.trees.specs.Shapes.{LeafLabel, InnerLabel, Marks}
use Rattle.trees.specs.Trees.{Tree, Shaped}
use Rattle.automata.specs.Automata.{Automaton, accepts, Reached, Alike}
use Rattle.automata.specs.Atoms.{guarded}
use Rattle.automata.specs.Numbering.{Table, Question, answer, Over, FirstMet}

pub record SameTable (sh : Shape) (A B : Table) : Type 0 where
  pub states : A.states ≡ B.states
  pub final : (s : ℕ) → s < A.states → A.final s ≡ B.final s
  pub cells : (q : Question) → Over sh A.states q → answer A q ≡ answer B q

abbrev pub Closed : Shape → Table → Type 0
Closed sh T = (q : Question) → Over sh T.states q → answer T q < T.states

abbrev pub table_automaton : Shape → Table → Automaton
table_automaton sh T = guarded sh T.states T.leaf_cell T.inner_cell T.final

-- state gives each reached code its class
pub record TableOf (M : Automaton) (T : Table) : Type 0 where
  pub state : ℕ → ℕ
  pub state_in : (x : ℕ) → Reached M x → state x < T.states
  pub state_of : (s : ℕ) → s < T.states → (x : ℕ) × Reached M x × (state x ≡ s)
  pub classes : (x y : ℕ) → Reached M x → Reached M y → (state x ≡ state y) ↔ Alike M x y
  pub finals : (x : ℕ) → Reached M x → T.final (state x) ≡ M.final x
  pub leaves : (a m : ℕ) → LeafLabel M.shape a → Marks M.shape m → T.leaf_cell a m ≡ state (M.leaf_step a m)
  pub inners : (a m x y : ℕ) → InnerLabel M.shape a → Marks M.shape m → Reached M x → Reached M y
      → T.inner_cell a m (state x) (state y) ≡ state (M.inner_step a m x y)
  pub met : FirstMet M.shape T

abbrev pub AcceptSame : Automaton → Automaton → Type 0
AcceptSame M M' = (t : Tree) → Shaped M.shape t → accepts M t ≡ accepts M' t

pub record TooMany (M : Automaton) (N : ℕ) : Type 0 where
  pub codes : ℕ → ℕ
  pub reached : (i : ℕ) → i ≤ N → Reached M (codes i)
  pub apart : (i j : ℕ) → i < j → j ≤ N → codes i ≢ codes j
