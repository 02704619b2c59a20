-- A set put in a track: the tree stays of the shape, and at each node only that track's mark changes, to the set.
use Rattle.std.proofs.Common.{◌≡◌, ℕ, ◌<◌, ◌≢◌, refl, ap}
use Rattle.trees.specs.declared.shape.Shape.{Shape}
use Rattle.trees.specs.Trees.{Tree, leaf, inner, Shaped, label, marks}
use Rattle.trees.specs.Nodes.{Node, root, left, right, Nodes, part, bit, put_bit, put, moved}
use Rattle.trees.proofs.PutBits.{bit_put_same, bit_put_other, put_bit_lt}

pub put_shaped : (sh : Shape) (i : ℕ) → i < sh.tracks → (t : Tree) → Shaped sh t → (S : Nodes t) → Shaped sh (put i t S)
put_shaped sh i h (leaf a m) k S = (k.0, put_bit_lt i (S root) sh.tracks m h k.1)
put_shaped sh i h (inner a m l r) k S =
    (k.0, put_bit_lt i (S root) sh.tracks m h k.1, put_shaped sh i h l k.2 (λ p. S (left p)), put_shaped sh i h r k.3 (λ p. S (right p)))

module _ (i : ℕ) where
  pub put_marks : (t : Tree) (S : Nodes t) (p : Node t) → marks (part (moved i S p)) ≡ put_bit i (S p) (marks (part p))
  put_marks (leaf a m) S root = refl
  put_marks (inner a m l r) S root = refl
  put_marks (inner a m l r) S (left p) = put_marks l (λ q. S (left q)) p
  put_marks (inner a m l r) S (right p) = put_marks r (λ q. S (right q)) p

  pub put_label : (t : Tree) (S : Nodes t) (p : Node t) → label (part (moved i S p)) ≡ label (part p)
  put_label (leaf a m) S root = refl
  put_label (inner a m l r) S root = refl
  put_label (inner a m l r) S (left p) = put_label l (λ q. S (left q)) p
  put_label (inner a m l r) S (right p) = put_label r (λ q. S (right q)) p

  pub put_in : (t : Tree) (S : Nodes t) (p : Node t) → bit i (marks (part (moved i S p))) ≡ S p
  put_in t S p = rw (put_marks t S p) (bit_put_same i (S p) (marks (part p)))

  pub put_other : (t : Tree) (S : Nodes t) (p : Node t) (j : ℕ) → j ≢ i → bit j (marks (part (moved i S p))) ≡ bit j (marks (part p))
  put_other t S p j ne = rw (put_marks t S p) (bit_put_other i j (S p) (marks (part p)) ne)

  pub put_nodes : (t : Tree) (S : Nodes t) (q : Node (put i t S)) → (p : Node t) × (moved i S p ≡ q)
  put_nodes (leaf a m) S root = (root, refl)
  put_nodes (inner a m l r) S root = (root, refl)
  put_nodes (inner a m l r) S (left q) = let w = put_nodes l (λ p. S (left p)) q in (left w.0, ap left w.1)
  put_nodes (inner a m l r) S (right q) = let w = put_nodes r (λ p. S (right p)) q in (right w.0, ap right w.1)
