-- The worked examples of atoms hold.
use Rattle.std.proofs.Common.{◌≡◌, refl, arith, lit<, lit≤}
use Rattle.trees.specs.Nodes.{Node, root, left, right, bit, In, RightChild}
use Rattle.automata.specs.Rules.{AtomHolds, lab}
use Rattle.automata.specs.Examples.{first_tree, second_tree, AtomExamples}

pub atom_examples : AtomExamples
unfolding bit
atom_examples = record {
  first_shaped = ((lit≤ tt, lit< tt), lit< tt, (lit< tt, lit< tt), (lit< tt, lit< tt));
  first_listed = refl;
  not_sub = λ h. h (left root) tt;
  holds_sing = (left root, (tt, first_0));
  holds_lab = lab_0;
  not_lab = λ h. absurd (omega (arith, h (right root) tt));
  second_shaped = ((lit≤ tt, lit< tt), lit< tt, (lit< tt, lit< tt), (lit< tt, lit< tt));
  second_listed = refl;
  holds_left = (root, left root, (tt, second_0), (tt, second_1), tt);
  holds_below = (root, left root, (tt, second_0), (tt, second_1), tt);
  not_right = λ o. no_right o.0 o.1 o.2.0 o.3.0 o.4;
}
  where
    first_0 : (q : Node first_tree) → In 0 q → q ≡ left root
    first_0 root h = elim h [ ]
    first_0 (left root) h = refl
    first_0 (right root) h = elim h [ ]

    lab_0 : AtomHolds (lab 0 0) first_tree
    lab_0 root h = elim h [ ]
    lab_0 (left root) h = refl
    lab_0 (right root) h = elim h [ ]

    second_0 : (q : Node second_tree) → In 0 q → q ≡ root
    second_0 root h = refl
    second_0 (left root) h = elim h [ ]
    second_0 (right root) h = elim h [ ]

    second_1 : (q : Node second_tree) → In 1 q → q ≡ left root
    second_1 root h = elim h [ ]
    second_1 (left root) h = refl
    second_1 (right root) h = elim h [ ]

    no_right : (p q : Node second_tree) → In 0 p → In 1 q → RightChild p q → ⊥
    no_right root root h k c = c
    no_right root (left root) h k c = c
    no_right root (right root) h k c = k
    no_right (left root) q h k c = h
    no_right (right root) q h k c = h
