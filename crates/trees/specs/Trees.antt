-- Marked trees and their listings.
-- Words:
--   Tree          a leaf, or an inner node over a left part and a right part; each node has a label and marks
--   Shaped sh t   every node of t has a label and marks of the shape
--   listing       the bytes of a tree: those of the left part, those of the right part, then the node's own label and marks
--   size          the number of nodes
use Rattle.std.specs.Prelude.{ℕ, ◌+◌, List, [], ◌∷◌, ◌++◌}
use Rattle.trees.specs.declared.shape.Shape.{Shape}
use Rattle.trees.specs.Shapes.{LeafLabel, InnerLabel, Marks}

pub data Tree : Type 0 where
  leaf : ℕ → ℕ → Tree
  inner : ℕ → ℕ → Tree → Tree → Tree

abbrev pub Shaped : Shape → Tree → Type 0
Shaped sh (leaf a m) = LeafLabel sh a × Marks sh m
Shaped sh (inner a m l r) = InnerLabel sh a × Marks sh m × Shaped sh l × Shaped sh r

abbrev pub listing : Tree → List ℕ
listing (leaf a m) = a ∷ m ∷ []
listing (inner a m l r) = listing l ++ (listing r ++ (a ∷ m ∷ []))

abbrev pub size : Tree → ℕ
size (leaf a m) = 1
size (inner a m l r) = size l + size r + 1

-- the root's own label and marks
abbrev pub label : Tree → ℕ
label (leaf a m) = a
label (inner a m l r) = a

abbrev pub marks : Tree → ℕ
marks (leaf a m) = m
marks (inner a m l r) = m
