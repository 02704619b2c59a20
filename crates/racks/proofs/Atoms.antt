-- The automaton of an atom: of the shape asked for, and with at most four codes.
use Rattle.std.proofs.Common.{◌≡◌, ◌≤◌, Bool, true, false, cond, eqb, refl, lit≤}
use Rattle.trees.specs.declared.shape.Shape.{Shape}
use Rattle.automata.specs.Rules.{Atom, sub, lab, sing, left_of, right_of, below}
use Rattle.automata.specs.Atoms.{atom_automaton}

pub atom_shape : (sh : Shape) (A : Atom) → (atom_automaton sh A).shape ≡ sh
atom_shape sh (sub i j) = refl
atom_shape sh (lab i a) = refl
atom_shape sh (sing i) = refl
atom_shape sh (left_of i j) = refl
atom_shape sh (right_of i j) = refl
atom_shape sh (below i j) = refl

one_or_four : (b : Bool) → cond b 1 4 ≤ 4
one_or_four true = lit≤ tt
one_or_four false = lit≤ tt

one_or_two : (b : Bool) → cond b 1 2 ≤ 4
one_or_two true = lit≤ tt
one_or_two false = lit≤ tt

pub atom_count : (sh : Shape) (A : Atom) → (atom_automaton sh A).count ≤ 4
atom_count sh (sub i j) = one_or_two (eqb i j)
atom_count sh (lab i a) = lit≤ tt
atom_count sh (sing i) = lit≤ tt
atom_count sh (left_of i j) = one_or_four (eqb i j)
atom_count sh (right_of i j) = one_or_four (eqb i j)
atom_count sh (below i j) = one_or_four (eqb i j)
