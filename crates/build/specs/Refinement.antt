-- The refining of the codes found into classes of alike ones.
-- Words:
--   class_at cls x                     the class of index x
--   step_at l cells a m x y            the index that the cells hold for an inner step
--   Indexed l n cells                  the inner steps over n indices have cells, which hold indices below n
--   AgreesWith l cells cls a m x y z   with this label and marks, steps on x and on y with z at the other side are of one class
--   StepAgrees l n cells cls a m x y   so they are with every index
--   StepsAgree l n cells cls x y       so they are with every label and marks
--   Agreed l n cells cls x y           x and y are of one class, and so are steps on them
--   Tells b P                          the test b answers whether P
--   Classed M codes cls n k            cls numbers the first n codes by their classes of alike ones, k of them, as the classes first appear
use Rattle.std.specs.Prelude.{◌≡◌, ℕ, ◌<◌, ◌≤◌, Bool, true, false, List, length, slice_index}
use Rattle.trees.specs.Shapes.{InnerLabel, Marks}
use Rattle.automata.specs.Automata.{Automaton, Alike}
use Rattle.tables.specs.Exploring.{code_at}
use Rattle.tables.specs.Images.{width, inner_address}
use Rattle.tables.specs.Rounds.{Numbering}
use Rattle.slots.specs.declared.layout.Layout.{Layout}

abbrev pub class_at : List ℕ → ℕ → ℕ
class_at cls x = slice_index cls x

abbrev pub step_at : Layout → List ℕ → ℕ → ℕ → ℕ → ℕ → ℕ
step_at l cells a m x y = slice_index cells (inner_address l.shape l.most a m x y)

pub record Indexed (l : Layout) (n : ℕ) (cells : List ℕ) : Type 0 where
  pub room : n ≤ l.most
  pub lent : width l.shape l.most ≤ length cells
  pub inside : (a m x y : ℕ) → InnerLabel l.shape a → Marks l.shape m → x < n → y < n → step_at l cells a m x y < n

abbrev pub AgreesWith : Layout → List ℕ → List ℕ → ℕ → ℕ → ℕ → ℕ → ℕ → Type 0
AgreesWith l cells cls a m x y z =
    (class_at cls (step_at l cells a m x z) ≡ class_at cls (step_at l cells a m y z)) × (class_at cls (step_at l cells a m z x) ≡ class_at cls (step_at l cells a m z y))

abbrev pub StepAgrees : Layout → ℕ → List ℕ → List ℕ → ℕ → ℕ → ℕ → ℕ → Type 0
StepAgrees l n cells cls a m x y = (z : ℕ) → z < n → AgreesWith l cells cls a m x y z

abbrev pub StepsAgree : Layout → ℕ → List ℕ → List ℕ → ℕ → ℕ → Type 0
StepsAgree l n cells cls x y = (a m : ℕ) → InnerLabel l.shape a → Marks l.shape m → StepAgrees l n cells cls a m x y

abbrev pub Agreed : Layout → ℕ → List ℕ → List ℕ → ℕ → ℕ → Type 0
Agreed l n cells cls x y = (class_at cls x ≡ class_at cls y) × StepsAgree l n cells cls x y

abbrev pub Tells : Bool → Type 0 → Type 0
Tells true P = P
Tells false P = P → ⊥

abbrev pub Classed : Automaton → List ℕ → List ℕ → ℕ → ℕ → Type 0
Classed M codes cls n k = Numbering (λ x y. Alike M (code_at codes x) (code_at codes y)) (class_at cls) n k
