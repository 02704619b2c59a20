-- What each make of machine means: the automaton of its atom, whatever numbers it holds.
-- Words:
--   inclusion, labelled    the atom that a rule on each node is
--   .. _meaning            the automaton that a machine of that make is; of every rule on each node, and of every relation, by its atom
use Rattle.std.specs.Prelude.{ℕ}
use Rattle.automata.specs.Automata.{Automaton}
use Rattle.automata.specs.Rules.{Atom, sub, lab, sing}
use Rattle.automata.specs.Atoms.{atom_automaton}
use Rattle.atoms.specs.declared.sing.Sing.{Sing}
use Rattle.atoms.specs.declared.every.Every.{Every}
use Rattle.atoms.specs.declared.sub.Inclusion.{Inclusion}
use Rattle.atoms.specs.declared.lab.Labelled.{Labelled}
use Rattle.atoms.specs.declared.related.Related.{Related}

abbrev pub inclusion : Inclusion → Atom
inclusion r = sub r.smaller r.larger

abbrev pub labelled : Labelled → Atom
labelled r = lab r.track r.label

abbrev pub every_meaning : {R : Type 0} → (R → Atom) → Every R → Automaton
every_meaning atom s = atom_automaton s.shape (atom s.rule)

abbrev pub sing_meaning : Sing → Automaton
sing_meaning s = atom_automaton s.shape (sing s.track)

abbrev pub related_meaning : {R : Type 0} → (ℕ → ℕ → Atom) → Related R → Automaton
related_meaning atom s = atom_automaton s.shape (atom s.upper s.lower)
