-- Where no refusal is due, the automaton of the atom accepts the trees of which the atom holds, and its codes are its states.
use Rattle.std.proofs.Common.{◌≡◌, ℕ, ◌+◌, ◌<◌, true, ◌&&◌, ltb, None, refl, rules}
use Rattle.std.proofs.lemmas.Bool.{ltb-true}
use Rattle.trees.specs.declared.shape.Shape.{Shape}
use Rattle.trees.specs.Shapes.{limits}
use Rattle.trees.proofs.Turns.{passed}
use Rattle.automata.specs.Rules.{Atom, sub, lab, sing, left_of, right_of, below, AtomFits}
use Rattle.automata.specs.Atoms.{atom_automaton}
use Rattle.automata.proofs.AtomAutomata.{atom_accepts}
use Rattle.automata.proofs.AtomStates.{atom_states}
use Rattle.atoms.specs.Making.{tracks_fit, label_fits, atom_refusal, MadeAtom}

both_below : (i j k : ℕ) → (ltb i k && ltb j k) ≡ true → (i < k) × (j < k)
both_below i j k h = search rules

fits : (sh : Shape) (A : Atom) → tracks_fit sh A ≡ true → label_fits sh A ≡ true → AtomFits sh A
fits sh (sub i j) h l = both_below i j sh.tracks h
fits sh (lab i a) h l = (ltb-true i sh.tracks h, ltb-true a (sh.leaves + sh.inners) l)
fits sh (sing i) h l = ltb-true i sh.tracks h
fits sh (left_of i j) h l = both_below i j sh.tracks h
fits sh (right_of i j) h l = both_below i j sh.tracks h
fits sh (below i j) h l = both_below i j sh.tracks h

is_made : (sh : Shape) (A : Atom) → atom_refusal sh A ≡ None → MadeAtom sh A (atom_automaton sh A)
is_made sh A due =
    let p = passed (limits sh.leaves sh.inners sh.tracks) _ _ due in
    let q = passed (tracks_fit sh A) _ _ p.1 in
    let l = passed (label_fits sh A) _ _ q.1 in
    record {
      is = refl;
      accepts = atom_accepts sh A;
      states = atom_states sh A p.0 (fits sh A q.0 l.0);
    }

pub made : (sh : Shape) (A : Atom) → atom_refusal sh A ≡ None → (atom_refusal sh A ≡ None) × MadeAtom sh A (atom_automaton sh A)
made sh A due = (due, is_made sh A due)
