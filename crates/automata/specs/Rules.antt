-- Rules, and what it is for one to hold of a marked tree, in terms of nodes and sets of nodes alone.
-- Words:
--   Atom            the six atomic rules, over tracks i and j and a label a
--   AtomFits sh A   the atom's tracks and label are of the shape
--   TheOne i p      p is the one node of track i
--   Ones t R i j    tracks i and j have exactly one node each, and R holds between i's and j's
--   AtomHolds A t   the atom holds of t
--   Rule            atoms, their negations, conjunctions and disjunctions, "some set in track i", and an automaton taken as a rule
--   Holds r t       the rule holds of t
use Rattle.std.specs.Prelude.{◌≡◌, ℕ, ◌<◌, T, ◌⊎◌}
use Rattle.trees.specs.declared.shape.Shape.{Shape}
use Rattle.trees.specs.Shapes.{labels}
use Rattle.trees.specs.Trees.{Tree, label}
use Rattle.trees.specs.Nodes.{Node, Nodes, part, In, LeftChild, RightChild, ProperlyBelow, put}
use Rattle.automata.specs.Automata.{Automaton, accepts}

pub data Atom : Type 0 where
  sub : ℕ → ℕ → Atom
  lab : ℕ → ℕ → Atom
  sing : ℕ → Atom
  left_of : ℕ → ℕ → Atom
  right_of : ℕ → ℕ → Atom
  below : ℕ → ℕ → Atom

abbrev pub AtomFits : Shape → Atom → Type 0
AtomFits sh (sub i j) = (i < sh.tracks) × (j < sh.tracks)
AtomFits sh (lab i a) = (i < sh.tracks) × (a < labels sh)
AtomFits sh (sing i) = i < sh.tracks
AtomFits sh (left_of i j) = (i < sh.tracks) × (j < sh.tracks)
AtomFits sh (right_of i j) = (i < sh.tracks) × (j < sh.tracks)
AtomFits sh (below i j) = (i < sh.tracks) × (j < sh.tracks)

abbrev pub TheOne : {t : Tree} → ℕ → Node t → Type 0
TheOne {t} i p = In i p × ((q : Node t) → In i q → q ≡ p)

abbrev pub Ones : (t : Tree) → (Node t → Node t → Type 0) → ℕ → ℕ → Type 0
Ones t R i j = (p : Node t) × (q : Node t) × TheOne i p × TheOne j q × R p q

abbrev pub AtomHolds : Atom → Tree → Type 0
AtomHolds (sub i j) t = (p : Node t) → In i p → In j p
AtomHolds (lab i a) t = (p : Node t) → In i p → label (part p) ≡ a
AtomHolds (sing i) t = (p : Node t) × TheOne i p
AtomHolds (left_of i j) t = Ones t LeftChild i j
AtomHolds (right_of i j) t = Ones t RightChild i j
AtomHolds (below i j) t = Ones t ProperlyBelow i j

pub data Rule : Type 0 where
  atom : Atom → Rule
  neg : Rule → Rule
  both : Rule → Rule → Rule
  either : Rule → Rule → Rule
  some_set : ℕ → Rule → Rule
  taken : Automaton → Rule

abbrev pub Holds : Rule → Tree → Type 0
Holds (atom A) t = AtomHolds A t
Holds (neg r) t = ¬ Holds r t
Holds (both r s) t = Holds r t × Holds s t
Holds (either r s) t = Holds r t ⊎ Holds s t
Holds (some_set i r) t = (S : Nodes t) × Holds r (put i t S)
Holds (taken M) t = T (accepts M t)
