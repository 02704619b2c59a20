-- The nodes of a tree, how they stand to each other, and sets of them.
-- Words:
--   Node t             a node of t: its root, a node of its left part or a node of its right part
--   part p             the node p with all that hangs under it
--   In i p             p is in track i: bit i of its marks, worth 2 ^ i, is 1
--   LeftChild p q      q is the left child of p; RightChild p q, the right child
--   ProperlyBelow p q  q hangs below p and is not p
--   Nodes t            a set of nodes of t
--   put i t S          t with S in track i: exactly the nodes of S get that mark, and all other marks stay
--   moved i S p        the node of put i t S that stands where p stands in t
use Rattle.std.specs.Prelude.{ℕ, ◌+◌, ◌-◌, ◌/◌, ◌%◌, ◌^◌, Bool, true, false, cond, T, ◌==◌}
use Rattle.trees.specs.Trees.{Tree, leaf, inner, marks}

pub data Node : Tree → Type 0 where
  root : {t : Tree} → Node t
  left : {a m : ℕ} {l r : Tree} → Node l → Node (inner a m l r)
  right : {a m : ℕ} {l r : Tree} → Node r → Node (inner a m l r)

abbrev pub part : {t : Tree} → Node t → Tree
part {t} root = t
part (left p) = part p
part (right p) = part p

-- bit i of m
unfoldable pub bit : ℕ → ℕ → Bool
bit i m = m / 2 ^ i % 2 == 1

-- m with its bit i made b
unfoldable pub put_bit : ℕ → Bool → ℕ → ℕ
put_bit i true m = cond (bit i m) m (m + 2 ^ i)
put_bit i false m = cond (bit i m) (m - 2 ^ i) m

abbrev pub In : {t : Tree} → ℕ → Node t → Type 0
In i p = T (bit i (marks (part p)))

abbrev pub IsRoot : {t : Tree} → Node t → Type 0
IsRoot root = Unit {0}
IsRoot (left p) = ⊥
IsRoot (right p) = ⊥

abbrev pub LeftChild : {t : Tree} → Node t → Node t → Type 0
LeftChild root root = ⊥
LeftChild root (left q) = IsRoot q
LeftChild root (right q) = ⊥
LeftChild (left p) root = ⊥
LeftChild (left p) (left q) = LeftChild p q
LeftChild (left p) (right q) = ⊥
LeftChild (right p) root = ⊥
LeftChild (right p) (left q) = ⊥
LeftChild (right p) (right q) = LeftChild p q

abbrev pub RightChild : {t : Tree} → Node t → Node t → Type 0
RightChild root root = ⊥
RightChild root (left q) = ⊥
RightChild root (right q) = IsRoot q
RightChild (left p) root = ⊥
RightChild (left p) (left q) = RightChild p q
RightChild (left p) (right q) = ⊥
RightChild (right p) root = ⊥
RightChild (right p) (left q) = ⊥
RightChild (right p) (right q) = RightChild p q

abbrev pub ProperlyBelow : {t : Tree} → Node t → Node t → Type 0
ProperlyBelow root root = ⊥
ProperlyBelow root (left q) = Unit {0}
ProperlyBelow root (right q) = Unit {0}
ProperlyBelow (left p) root = ⊥
ProperlyBelow (left p) (left q) = ProperlyBelow p q
ProperlyBelow (left p) (right q) = ⊥
ProperlyBelow (right p) root = ⊥
ProperlyBelow (right p) (left q) = ⊥
ProperlyBelow (right p) (right q) = ProperlyBelow p q

abbrev pub Nodes : Tree → Type 0
Nodes t = Node t → Bool

abbrev pub put : ℕ → (t : Tree) → Nodes t → Tree
put i (leaf a m) S = leaf a (put_bit i (S root) m)
put i (inner a m l r) S = inner a (put_bit i (S root) m) (put i l (λ p. S (left p))) (put i r (λ p. S (right p)))

abbrev pub moved : (i : ℕ) {t : Tree} (S : Nodes t) → Node t → Node (put i t S)
moved i S root = root
moved i S (left p) = left (moved i (λ q. S (left q)) p)
moved i S (right p) = right (moved i (λ q. S (right q)) p)
