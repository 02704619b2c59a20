-- What the definitions of nodes, sets and the reading come to: laws, and worked examples.
use Rattle.std.specs.Prelude.{◌≡◌, ℕ, ◌*◌, ◌<◌, ◌≢◌, ◌⊎◌, ◌↔◌, [], ◌∷◌, map, length, Some, None, nat_lt}
use Rattle.trees.specs.declared.shape.Shape.{Shape}
use Rattle.trees.specs.declared.refusal.Reason.TheVariants.{BadLength, UnknownLabel, UnknownMarks, MissingParts, NotOneTree}
use Rattle.trees.specs.Trees.{Tree, inner, Shaped, listing, size, label, marks}
use Rattle.trees.specs.Nodes.{Node, part, bit, LeftChild, RightChild, ProperlyBelow, Nodes, put, moved}
use Rattle.trees.specs.Reading.{refusal, first_refusal}

pub record NodeLaws : Type 0 where
  -- a left child heads the left part, a right child the right part
  pub left_part : {t : Tree} (p q : Node t) → LeftChild p q → (a m : ℕ) × (r : Tree) × (part p ≡ inner a m (part q) r)
  pub right_part : {t : Tree} (p q : Node t) → RightChild p q → (a m : ℕ) × (l : Tree) × (part p ≡ inner a m l (part q))
  -- what hangs properly below a node is a child of it, or hangs properly below one
  pub below : {t : Tree} (p q : Node t) → ProperlyBelow p q ↔ ((c : Node t) × (LeftChild p c ⊎ RightChild p c) × ((c ≡ q) ⊎ ProperlyBelow c q))
  -- two bytes a node
  pub bytes : (t : Tree) → length (listing t) ≡ size t * 2

pub record PutLaws : Type 0 where
  -- exactly the nodes of the set get the mark
  pub exactly : (i : ℕ) (t : Tree) (S : Nodes t) (p : Node t) → bit i (marks (part (moved i S p))) ≡ S p
  -- all other marks stay, and all labels
  pub others : (i : ℕ) (t : Tree) (S : Nodes t) (p : Node t) (j : ℕ) → j ≢ i → bit j (marks (part (moved i S p))) ≡ bit j (marks (part p))
  pub labels : (i : ℕ) (t : Tree) (S : Nodes t) (p : Node t) → label (part (moved i S p)) ≡ label (part p)
  -- there are no other nodes
  pub nodes : (i : ℕ) (t : Tree) (S : Nodes t) (q : Node (put i t S)) → (p : Node t) × (moved i S p ≡ q)
  pub shaped : (sh : Shape) (i : ℕ) → i < sh.tracks → (t : Tree) → Shaped sh t → (S : Nodes t) → Shaped sh (put i t S)

-- two leaf labels, one inner label, two tracks
abbrev pub small : Shape
small = record { leaves = 2; inners = 1; tracks = 2 }

-- the first refusal due of some listings, with a stack of four places
abbrev pub ReadingExamples : Type 0
ReadingExamples =
    map (first_refusal small (λ n. nat_lt n 4))
    ([]
    ∷ (2 ∷ 0 ∷ [])
    ∷ (0 ∷ 0 ∷ 0 ∷ 0 ∷ [])
    ∷ (3 ∷ 0 ∷ [])
    ∷ (0 ∷ 4 ∷ [])
    ∷ (0 ∷ [])
    ∷ (0 ∷ 1 ∷ 1 ∷ 2 ∷ 2 ∷ 0 ∷ [])
    ∷ [])
    ≡ (Some (refusal NotOneTree 0)
    ∷ Some (refusal MissingParts 0)
    ∷ Some (refusal NotOneTree 2)
    ∷ Some (refusal UnknownLabel 0)
    ∷ Some (refusal UnknownMarks 0)
    ∷ Some (refusal BadLength 0)
    ∷ None
    ∷ [])
