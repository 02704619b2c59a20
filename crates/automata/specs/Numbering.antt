-- Tables over states, and states numbered as first met.
-- Words:
--   Table               a number of states, which are final, and a cell for each step
--   Question            a leaf step, or an inner step over two states; answer T q, the cell of T at q
--   Over sh n q         q is of the shape and over states below n
--   pairs n             the pairs of numbers below n, written out: for m = 0, 1, 2 and on, (0,m) to (m,m), then (m,0) to (m,m-1)
--   pair_place x y      the place of the pair (x,y) among them
--   place sh q          the place of a question: leaf steps by label, then marks; then the pairs in their order, each over inner labels, then marks
--   MetAt sh T s q      s is first met at q: q is over states met before, its answer is s, and all answers at earlier places are below s
--   FirstMet sh T       the states are numbered as first met
--   own_table M         an automaton taken as a table over its own codes
--   CodesAreStates M    the codes are states: all reached, no two alike, numbered as first met
use Rattle.std.specs.Prelude.{◌≡◌, ℕ, zero, suc, ◌+◌, ◌-◌, ◌*◌, ◌^◌, ◌<◌, Bool, cond, List, [], ◌++◌, map, nat_le}
use Rattle.std.specs.List.{range_with_len}
use Rattle.trees.specs.declared.shape.Shape.{Shape}
use Rattle.trees.specs.Shapes.{LeafLabel, InnerLabel, Marks}
use Rattle.automata.specs.Automata.{Automaton, Reached, Alike}

pub record Table : Type 0 where
  pub states : ℕ
  pub final : ℕ → Bool
  pub leaf_cell : ℕ → ℕ → ℕ
  pub inner_cell : ℕ → ℕ → ℕ → ℕ → ℕ

pub data Question : Type 0 where
  at_leaf : ℕ → ℕ → Question
  at_inner : ℕ → ℕ → ℕ → ℕ → Question

abbrev pub answer : Table → Question → ℕ
answer T (at_leaf a m) = T.leaf_cell a m
answer T (at_inner a m x y) = T.inner_cell a m x y

abbrev pub Over : Shape → ℕ → Question → Type 0
Over sh n (at_leaf a m) = LeafLabel sh a × Marks sh m
Over sh n (at_inner a m x y) = InnerLabel sh a × Marks sh m × (x < n) × (y < n)

abbrev pub pairs : ℕ → List (ℕ × ℕ)
pairs zero = []
pairs (suc m) = pairs m ++ (map (λ x. (x, m)) (range_with_len 0 (m + 1)) ++ map (λ y. (m, y)) (range_with_len 0 m))

-- m × m pairs come before those with the greater number m
abbrev pub pair_place : ℕ → ℕ → ℕ
pair_place x y = cond (nat_le x y) (y * y + x) (x * x + (x + 1 + y))

abbrev pub place : Shape → Question → ℕ
place sh (at_leaf a m) = a * 2 ^ sh.tracks + m
place sh (at_inner a m x y) = sh.leaves * 2 ^ sh.tracks + (pair_place x y * sh.inners + (a - sh.leaves)) * 2 ^ sh.tracks + m

pub record MetAt (sh : Shape) (T : Table) (s : ℕ) (q : Question) : Type 0 where
  pub over : Over sh s q
  pub is : answer T q ≡ s
  pub first : (q' : Question) → Over sh T.states q' → place sh q' < place sh q → answer T q' < s

abbrev pub FirstMet : Shape → Table → Type 0
FirstMet sh T = (s : ℕ) → s < T.states → (q : Question) × MetAt sh T s q

abbrev pub own_table : Automaton → Table
own_table M = record { states = M.count; final = M.final; leaf_cell = M.leaf_step; inner_cell = M.inner_step }

pub record CodesAreStates (M : Automaton) : Type 0 where
  pub reached : (x : ℕ) → x < M.count → Reached M x
  pub apart : (x y : ℕ) → x < M.count → y < M.count → Alike M x y → x ≡ y
  pub met : FirstMet M.shape (own_table M)
