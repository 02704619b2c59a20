-- Left child, right child and properly below: how a related pair of nodes stands to the root.
use Rattle.std.proofs.Common.{ℕ, ◌+◌, ◌<◌, ◌≤◌, T, ◌⊎◌, inl, inr, arith, le→leb, leb→le}
use native.Mathlib.Decide.{dec_lt}
use Rattle.trees.specs.Trees.{Tree, leaf, inner, marks}
use Rattle.trees.specs.Nodes.{Node, root, left, right, bit, In, IsRoot, LeftChild, RightChild, ProperlyBelow}
use Rattle.automata.proofs.Standings.{Meets, meets_left, meets_right, meets_below}
use Rattle.automata.proofs.Tallies.{tally, tally_some}

abbrev pub Relation : Type 1
Relation = (t : Tree) → Node t → Node t → Type 0

-- some node of i is related to some node of j
abbrev pub Pair : Relation → ℕ → ℕ → Tree → Type 0
Pair R i j t = (p : Node t) × (q : Node t) × In i p × In j q × R t p q

-- the root is in i and has a j where the relation wants it
abbrev pub AtRoot : Meets → ℕ → ℕ → ℕ → Tree → Tree → Type 0
AtRoot meets i j m l r = T (bit i m) × T (meets (tally j l) (bit j (marks l)) (tally j r) (bit j (marks r)))

pub record Related (R : Relation) (meets : Meets) : Type 0 where
  pub never : (t : Tree) (p : Node t) → R t p p → ⊥
  pub no_leaf : (a m : ℕ) (p q : Node (leaf a m)) → R (leaf a m) p q → ⊥
  pub split : (i j a m : ℕ) (l r : Tree) (p q : Node (inner a m l r)) → In i p → In j q → R (inner a m l r) p q
      → AtRoot meets i j m l r ⊎ (Pair R i j l ⊎ Pair R i j r)
  pub at_root : (i j a m : ℕ) (l r : Tree) → AtRoot meets i j m l r → Pair R i j (inner a m l r)
  pub in_left : (i j a m : ℕ) (l r : Tree) → Pair R i j l → Pair R i j (inner a m l r)
  pub in_right : (i j a m : ℕ) (l r : Tree) → Pair R i j r → Pair R i j (inner a m l r)

root_in : (j : ℕ) (t : Tree) (q : Node t) → IsRoot q → In j q → T (bit j (marks t))
root_in j t root h k = k
root_in j (inner a m l r) (left q) h k = elim h [ ]
root_in j (inner a m l r) (right q) h k = elim h [ ]

abbrev pub to_left : Relation
to_left t p q = LeftChild p q

pub left_related : Related to_left meets_left
left_related = record {
  never = λ t p. never p;
  no_leaf = no_leaf;
  split = split;
  at_root = λ i j a m l r h. (root, left root, h.0, h.1, tt);
  in_left = λ i j a m l r s. (left s.0, left s.1, s.2, s.3, s.4);
  in_right = λ i j a m l r s. (right s.0, right s.1, s.2, s.3, s.4);
}
  where
    never : {t : Tree} (p : Node t) → LeftChild p p → ⊥
    never root c = c
    never (left p) c = never p c
    never (right p) c = never p c

    no_leaf : (a m : ℕ) (p q : Node (leaf a m)) → LeftChild p q → ⊥
    no_leaf a m root root c = c

    split : (i j a m : ℕ) (l r : Tree) (p q : Node (inner a m l r)) → In i p → In j q → LeftChild p q
        → AtRoot meets_left i j m l r ⊎ (Pair to_left i j l ⊎ Pair to_left i j r)
    split i j a m l r root root h k c = elim c [ ]
    split i j a m l r root (left q) h k c = inl (h, root_in j l q c k)
    split i j a m l r root (right q) h k c = elim c [ ]
    split i j a m l r (left p) root h k c = elim c [ ]
    split i j a m l r (left p) (left q) h k c = inr (inl (p, q, h, k, c))
    split i j a m l r (left p) (right q) h k c = elim c [ ]
    split i j a m l r (right p) root h k c = elim c [ ]
    split i j a m l r (right p) (left q) h k c = elim c [ ]
    split i j a m l r (right p) (right q) h k c = inr (inr (p, q, h, k, c))

abbrev pub to_right : Relation
to_right t p q = RightChild p q

pub right_related : Related to_right meets_right
right_related = record {
  never = λ t p. never p;
  no_leaf = no_leaf;
  split = split;
  at_root = λ i j a m l r h. (root, right root, h.0, h.1, tt);
  in_left = λ i j a m l r s. (left s.0, left s.1, s.2, s.3, s.4);
  in_right = λ i j a m l r s. (right s.0, right s.1, s.2, s.3, s.4);
}
  where
    never : {t : Tree} (p : Node t) → RightChild p p → ⊥
    never root c = c
    never (left p) c = never p c
    never (right p) c = never p c

    no_leaf : (a m : ℕ) (p q : Node (leaf a m)) → RightChild p q → ⊥
    no_leaf a m root root c = c

    split : (i j a m : ℕ) (l r : Tree) (p q : Node (inner a m l r)) → In i p → In j q → RightChild p q
        → AtRoot meets_right i j m l r ⊎ (Pair to_right i j l ⊎ Pair to_right i j r)
    split i j a m l r root root h k c = elim c [ ]
    split i j a m l r root (left q) h k c = elim c [ ]
    split i j a m l r root (right q) h k c = inl (h, root_in j r q c k)
    split i j a m l r (left p) root h k c = elim c [ ]
    split i j a m l r (left p) (left q) h k c = inr (inl (p, q, h, k, c))
    split i j a m l r (left p) (right q) h k c = elim c [ ]
    split i j a m l r (right p) root h k c = elim c [ ]
    split i j a m l r (right p) (left q) h k c = elim c [ ]
    split i j a m l r (right p) (right q) h k c = inr (inr (p, q, h, k, c))

abbrev pub to_below : Relation
to_below t p q = ProperlyBelow p q

pub below_related : Related to_below meets_below
below_related = record {
  never = λ t p. never p;
  no_leaf = no_leaf;
  split = split;
  at_root = at_root;
  in_left = λ i j a m l r s. (left s.0, left s.1, s.2, s.3, s.4);
  in_right = λ i j a m l r s. (right s.0, right s.1, s.2, s.3, s.4);
}
  where
    never : {t : Tree} (p : Node t) → ProperlyBelow p p → ⊥
    never root c = c
    never (left p) c = never p c
    never (right p) c = never p c

    no_leaf : (a m : ℕ) (p q : Node (leaf a m)) → ProperlyBelow p q → ⊥
    no_leaf a m root root c = c

    split : (i j a m : ℕ) (l r : Tree) (p q : Node (inner a m l r)) → In i p → In j q → ProperlyBelow p q
        → AtRoot meets_below i j m l r ⊎ (Pair to_below i j l ⊎ Pair to_below i j r)
    split i j a m l r root root h k c = elim c [ ]
    split i j a m l r root (left q) h k c = inl (h, le→leb 1 (tally j l + tally j r) (omega (arith, (tally_some j l).1 (q, k))))
    split i j a m l r root (right q) h k c = inl (h, le→leb 1 (tally j l + tally j r) (omega (arith, (tally_some j r).1 (q, k))))
    split i j a m l r (left p) root h k c = elim c [ ]
    split i j a m l r (left p) (left q) h k c = inr (inl (p, q, h, k, c))
    split i j a m l r (left p) (right q) h k c = elim c [ ]
    split i j a m l r (right p) root h k c = elim c [ ]
    split i j a m l r (right p) (left q) h k c = elim c [ ]
    split i j a m l r (right p) (right q) h k c = inr (inr (p, q, h, k, c))

    at_root : (i j a m : ℕ) (l r : Tree) → AtRoot meets_below i j m l r → Pair to_below i j (inner a m l r)
    at_root i j a m l r (h, k) = go (dec_lt 0 (tally j l))
      where
        z : 1 ≤ tally j l + tally j r
        z = leb→le 1 (tally j l + tally j r) k

        go : Dec (0 < tally j l) → Pair to_below i j (inner a m l r)
        go (yes p) = let s = (tally_some j l).0 p in (root, left s.0, h, s.1, tt)
        go (no p) = let s = (tally_some j r).0 (omega (arith, z)) in (root, right s.0, h, s.1, tt)
