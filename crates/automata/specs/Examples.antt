-- Worked examples of the definitions: readings, and atoms on two small trees.
-- Words:
--   shape_212      2 leaf labels, 1 inner label, 2 tracks
--   first_tree     a leaf of track 0 and a leaf of track 1 under an unmarked node
--   second_tree    a leaf of track 1 and an unmarked leaf under a node of track 0
--   AtomExamples   what holds of them
--   WorkedExamples all worked examples: of the reading and of the atoms
use Rattle.std.specs.Prelude.{◌≡◌, [], ◌∷◌}
use Rattle.trees.specs.declared.shape.Shape.{Shape}
use Rattle.trees.specs.Trees.{Tree, leaf, inner, Shaped, listing}
use Rattle.trees.specs.Laws.{ReadingExamples}
use Rattle.automata.specs.Rules.{AtomHolds, sub, lab, sing, left_of, right_of, below}

abbrev pub shape_212 : Shape
shape_212 = record { leaves = 2; inners = 1; tracks = 2 }

abbrev pub first_tree : Tree
first_tree = inner 2 0 (leaf 0 1) (leaf 1 2)

abbrev pub second_tree : Tree
second_tree = inner 2 1 (leaf 0 2) (leaf 1 0)

pub record AtomExamples : Type 0 where
  pub first_shaped : Shaped shape_212 first_tree
  pub first_listed : listing first_tree ≡ 0 ∷ 1 ∷ 1 ∷ 2 ∷ 2 ∷ 0 ∷ []
  pub not_sub : ¬ AtomHolds (sub 0 1) first_tree
  pub holds_sing : AtomHolds (sing 0) first_tree
  pub holds_lab : AtomHolds (lab 0 0) first_tree
  pub not_lab : ¬ AtomHolds (lab 1 0) first_tree
  pub second_shaped : Shaped shape_212 second_tree
  pub second_listed : listing second_tree ≡ 0 ∷ 2 ∷ 1 ∷ 0 ∷ 2 ∷ 1 ∷ []
  pub holds_left : AtomHolds (left_of 0 1) second_tree
  pub holds_below : AtomHolds (below 0 1) second_tree
  pub not_right : ¬ AtomHolds (right_of 0 1) second_tree

pub record WorkedExamples : Type 0 where
  pub readings : ReadingExamples
  pub atoms : AtomExamples
