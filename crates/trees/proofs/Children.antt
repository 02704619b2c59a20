-- Children and what hangs below a node.
use Rattle.std.proofs.Common.{◌≡◌, ℕ, ◌⊎◌, ◌↔◌, sym, refl, ap, subst, inl, inr}
use Rattle.trees.specs.Trees.{Tree, inner}
use Rattle.trees.specs.Nodes.{Node, root, left, right, part, IsRoot, LeftChild, RightChild, ProperlyBelow}

root_part : {t : Tree} (p : Node t) → IsRoot p → part p ≡ t
root_part root h = refl
root_part (left p) h = elim h [ ]
root_part (right p) h = elim h [ ]

pub left_part : {t : Tree} (p q : Node t) → LeftChild p q → (a m : ℕ) × (r : Tree) × (part p ≡ inner a m (part q) r)
left_part root root h = elim h [ ]
left_part root (left {a} {m} {l} {r} q) h = (a, m, r, ap (λ (x : Tree). inner a m x r) (sym (root_part q h)))
left_part root (right q) h = elim h [ ]
left_part (left p) root h = elim h [ ]
left_part (left p) (left q) h = left_part p q h
left_part (left p) (right q) h = elim h [ ]
left_part (right p) root h = elim h [ ]
left_part (right p) (left q) h = elim h [ ]
left_part (right p) (right q) h = left_part p q h

pub right_part : {t : Tree} (p q : Node t) → RightChild p q → (a m : ℕ) × (l : Tree) × (part p ≡ inner a m l (part q))
right_part root root h = elim h [ ]
right_part root (left q) h = elim h [ ]
right_part root (right {a} {m} {l} {r} q) h = (a, m, l, ap (inner a m l) (sym (root_part q h)))
right_part (left p) root h = elim h [ ]
right_part (left p) (left q) h = right_part p q h
right_part (left p) (right q) h = elim h [ ]
right_part (right p) root h = elim h [ ]
right_part (right p) (left q) h = elim h [ ]
right_part (right p) (right q) h = right_part p q h

abbrev Through : {t : Tree} → Node t → Node t → Type 0
Through {t} p q = (c : Node t) × (LeftChild p c ⊎ RightChild p c) × ((c ≡ q) ⊎ ProperlyBelow c q)

at_or_below_root : {t : Tree} (q : Node t) → (root ≡ q) ⊎ ProperlyBelow root q
at_or_below_root root = inl refl
at_or_below_root (left q) = inr tt
at_or_below_root (right q) = inr tt

through : {t : Tree} (p q : Node t) → ProperlyBelow p q → Through p q
through root root h = elim h [ ]
through root (left q) h = (left root, inl tt, elim (at_or_below_root q) [ inl e ↦ inl (ap left e) | inr b ↦ inr b ])
through root (right q) h = (right root, inr tt, elim (at_or_below_root q) [ inl e ↦ inl (ap right e) | inr b ↦ inr b ])
through (left p) root h = elim h [ ]
through (left p) (left q) h = let w = through p q h in (left w.0, w.1, elim w.2 [ inl e ↦ inl (ap left e) | inr b ↦ inr b ])
through (left p) (right q) h = elim h [ ]
through (right p) root h = elim h [ ]
through (right p) (left q) h = elim h [ ]
through (right p) (right q) h = let w = through p q h in (right w.0, w.1, elim w.2 [ inl e ↦ inl (ap right e) | inr b ↦ inr b ])

child_below : {t : Tree} (p c : Node t) → LeftChild p c ⊎ RightChild p c → ProperlyBelow p c
child_below root root h = elim h [ inl x ↦ x | inr x ↦ x ]
child_below root (left c) h = tt
child_below root (right c) h = tt
child_below (left p) root h = elim h [ inl x ↦ x | inr x ↦ x ]
child_below (left p) (left c) h = child_below p c h
child_below (left p) (right c) h = elim h [ inl x ↦ x | inr x ↦ x ]
child_below (right p) root h = elim h [ inl x ↦ x | inr x ↦ x ]
child_below (right p) (left c) h = elim h [ inl x ↦ x | inr x ↦ x ]
child_below (right p) (right c) h = child_below p c h

below_trans : {t : Tree} (p c q : Node t) → ProperlyBelow p c → ProperlyBelow c q → ProperlyBelow p q
below_trans root root q h k = k
below_trans root (left c) root h k = k
below_trans root (left c) (left q) h k = tt
below_trans root (left c) (right q) h k = tt
below_trans root (right c) root h k = k
below_trans root (right c) (left q) h k = tt
below_trans root (right c) (right q) h k = tt
below_trans (left p) root q h k = elim h [ ]
below_trans (left p) (left c) root h k = elim k [ ]
below_trans (left p) (left c) (left q) h k = below_trans p c q h k
below_trans (left p) (left c) (right q) h k = elim k [ ]
below_trans (left p) (right c) q h k = elim h [ ]
below_trans (right p) root q h k = elim h [ ]
below_trans (right p) (left c) q h k = elim h [ ]
below_trans (right p) (right c) root h k = elim k [ ]
below_trans (right p) (right c) (left q) h k = elim k [ ]
below_trans (right p) (right c) (right q) h k = below_trans p c q h k

pub below_children : {t : Tree} (p q : Node t) → ProperlyBelow p q ↔ ((c : Node t) × (LeftChild p c ⊎ RightChild p c) × ((c ≡ q) ⊎ ProperlyBelow c q))
below_children p q = (through p q, back)
  where
    back : (c : Node _) × (LeftChild p c ⊎ RightChild p c) × ((c ≡ q) ⊎ ProperlyBelow c q) → ProperlyBelow p q
    back (c, h, inl e) = subst (ProperlyBelow p) e (child_below p c h)
    back (c, h, inr k) = below_trans p c q (child_below p c h) k
