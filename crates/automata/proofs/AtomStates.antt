-- The codes of each atom's automaton are its states.
use Rattle.trees.specs.declared.shape.Shape.{Shape}
use Rattle.trees.specs.Shapes.{Limited}
use Rattle.automata.specs.Rules.{Atom, sub, lab, sing, left_of, right_of, below, AtomFits}
use Rattle.automata.specs.Atoms.{atom_automaton}
use Rattle.automata.specs.Numbering.{CodesAreStates}
use Rattle.automata.proofs.StandingPlaces.{left_sided, right_sided, below_sided}
use Rattle.automata.proofs.SingStates.{sing_states}
use Rattle.automata.proofs.EveryStates.{sub_states, lab_states}
use Rattle.automata.proofs.OnesStates.{ones_states}

pub atom_states : (sh : Shape) (A : Atom) → Limited sh → AtomFits sh A → CodesAreStates (atom_automaton sh A)
atom_states sh (sub i j) ok fits = sub_states sh ok i j fits.0
atom_states sh (lab i a) ok fits = lab_states sh ok i a fits.0
atom_states sh (sing i) ok fits = sing_states sh ok i fits
atom_states sh (left_of i j) ok fits = ones_states left_sided sh ok i j fits.0 fits.1
atom_states sh (right_of i j) ok fits = ones_states right_sided sh ok i j fits.0 fits.1
atom_states sh (below i j) ok fits = ones_states below_sided sh ok i j fits.0 fits.1
