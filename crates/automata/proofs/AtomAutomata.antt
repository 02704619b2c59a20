-- The automaton of each atom is lawful, and accepts exactly the trees of which the atom holds.
use Rattle.std.proofs.Common.{true, false, T, ◌↔◌}
use Rattle.trees.specs.declared.shape.Shape.{Shape}
use Rattle.trees.specs.Trees.{Tree, Shaped}
use Rattle.automata.specs.Automata.{Lawful, accepts}
use Rattle.automata.specs.Rules.{Atom, sub, lab, sing, left_of, right_of, below, AtomHolds}
use Rattle.automata.specs.Atoms.{left_step, right_step, below_step, atom_automaton}
use Rattle.automata.proofs.Everies.{sub_lawful, sub_accepts, lab_lawful, lab_accepts}
use Rattle.automata.proofs.Sings.{sing_lawful, sing_accepts}
use Rattle.automata.proofs.Standings.{meets_left, meets_right, meets_below, left_counts, right_counts, below_counts}
use Rattle.automata.proofs.Relations.{to_left, to_right, to_below, left_related, right_related, below_related}
use Rattle.automata.proofs.Ones.{ones_lawful, ones_accepts}

pub atom_lawful : (sh : Shape) (A : Atom) → Lawful (atom_automaton sh A)
atom_lawful sh (sub i j) = sub_lawful sh i j
atom_lawful sh (lab i a) = lab_lawful sh i a
atom_lawful sh (sing i) = sing_lawful sh i
atom_lawful sh (left_of i j) = ones_lawful left_step sh i j
atom_lawful sh (right_of i j) = ones_lawful right_step sh i j
atom_lawful sh (below i j) = ones_lawful below_step sh i j

pub atom_accepts : (sh : Shape) (A : Atom) (t : Tree) → Shaped sh t → T (accepts (atom_automaton sh A) t) ↔ AtomHolds A t
atom_accepts sh (sub i j) = sub_accepts sh i j
atom_accepts sh (lab i a) = lab_accepts sh i a
atom_accepts sh (sing i) = sing_accepts sh i
atom_accepts sh (left_of i j) = ones_accepts to_left left_step meets_left false left_counts left_related sh i j
atom_accepts sh (right_of i j) = ones_accepts to_right right_step meets_right false right_counts right_related sh i j
atom_accepts sh (below i j) = ones_accepts to_below below_step meets_below true below_counts below_related sh i j
