-- When an atom's machine is made, and what a made one is.
-- Words:
--   asked                     the atom that a constructor is asked for
--   tracks_fit, label_fits    the atom's tracks, its label, are of the shape
--   atom_refusal sh A         the first refusal due: 1, then 6, then 7
--   MadeAtom sh A M           M is the automaton of A: it accepts the trees of which A holds, and its codes are its states
--   Makes sh A of r           what a constructor answers: the first refusal due, or a machine that is such an automaton
use Rattle.std.specs.Prelude.{◌≡◌, Bool, true, ◌&&◌, T, ◌↔◌, Some, None, Option, Result, MatchResult, nat_lt}
use Rattle.trees.specs.declared.shape.Shape.{Shape}
use Rattle.trees.specs.declared.refusal.Reason.TheVariants.{OutsideLimits, NoSuchTrack, NoSuchLabel}
use Rattle.trees.specs.declared.refusal.Refusal.{Refusal}
use Rattle.trees.specs.Shapes.{limits, labels}
use Rattle.trees.specs.Trees.{Tree, Shaped}
use Rattle.trees.specs.Reading.{check}
use Rattle.automata.specs.Automata.{Automaton, accepts}
use Rattle.automata.specs.Rules.{Atom, sub, lab, sing, left_of, right_of, below, AtomHolds}
use Rattle.automata.specs.Atoms.{atom_automaton}
use Rattle.automata.specs.Numbering.{CodesAreStates}
use Rattle.machine.specs.Making.{refusal}
use Rattle.atoms.specs.declared.atom.Atom.{Atom as Asked}
use Rattle.atoms.specs.declared.atom.Atom.TheVariants.{Sub, Lab, Sing, Left, Right, Below}

abbrev pub asked : Asked → Atom
asked (Sub i j) = sub i j
asked (Lab i a) = lab i a
asked (Sing i) = sing i
asked (Left i j) = left_of i j
asked (Right i j) = right_of i j
asked (Below i j) = below i j

abbrev pub tracks_fit : Shape → Atom → Bool
tracks_fit sh (sub i j) = nat_lt i sh.tracks && nat_lt j sh.tracks
tracks_fit sh (lab i a) = nat_lt i sh.tracks
tracks_fit sh (sing i) = nat_lt i sh.tracks
tracks_fit sh (left_of i j) = nat_lt i sh.tracks && nat_lt j sh.tracks
tracks_fit sh (right_of i j) = nat_lt i sh.tracks && nat_lt j sh.tracks
tracks_fit sh (below i j) = nat_lt i sh.tracks && nat_lt j sh.tracks

abbrev pub label_fits : Shape → Atom → Bool
label_fits sh (sub i j) = true
label_fits sh (lab i a) = nat_lt a (labels sh)
label_fits sh (sing i) = true
label_fits sh (left_of i j) = true
label_fits sh (right_of i j) = true
label_fits sh (below i j) = true

abbrev pub atom_refusal : Shape → Atom → Option Refusal
atom_refusal sh A =
    check (limits sh.leaves sh.inners sh.tracks) (refusal OutsideLimits)
    (check (tracks_fit sh A) (refusal NoSuchTrack)
    (check (label_fits sh A) (refusal NoSuchLabel) None))

pub record MadeAtom (sh : Shape) (A : Atom) (M : Automaton) : Type 0 where
  pub is : M ≡ atom_automaton sh A
  pub accepts : (t : Tree) → Shaped sh t → T (accepts M t) ↔ AtomHolds A t
  pub states : CodesAreStates M

abbrev pub Makes : {X : Type 0} → Shape → Atom → (X → Automaton) → Result X Refusal → Type 0
Makes sh A of r =
    MatchResult r (λ m. (atom_refusal sh A ≡ None) × MadeAtom sh A (of m)) (λ e. atom_refusal sh A ≡ Some e)
