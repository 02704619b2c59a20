-- What the machines of the atoms mean, each in its own words.
-- Words:
--   sub_meaning, lab_meaning                   the automaton of an atom on each node
--   left_meaning, right_meaning, below_meaning   the automaton of an atom between two nodes
use Rattle.automata.specs.Automata.{Automaton}
use Rattle.automata.specs.Rules.{left_of, right_of, below}
use Rattle.automata.specs.Atoms.{atom_automaton}
use Rattle.atoms.specs.Meanings.{inclusion, labelled}
use Rattle.atoms.specs.declared.every.Every.{Every}
use Rattle.atoms.specs.declared.sub.Inclusion.{Inclusion}
use Rattle.atoms.specs.declared.lab.Labelled.{Labelled}
use Rattle.atoms.specs.declared.related.Related.{Related}
use Rattle.atoms.specs.declared.left.LeftChild.{LeftChild}
use Rattle.atoms.specs.declared.right.RightChild.{RightChild}
use Rattle.atoms.specs.declared.below.Descendant.{Descendant}

abbrev pub sub_meaning : Every Inclusion → Automaton
sub_meaning s = atom_automaton s.shape (inclusion s.rule)

abbrev pub lab_meaning : Every Labelled → Automaton
lab_meaning s = atom_automaton s.shape (labelled s.rule)

abbrev pub left_meaning : Related LeftChild → Automaton
left_meaning s = atom_automaton s.shape (left_of s.upper s.lower)

abbrev pub right_meaning : Related RightChild → Automaton
right_meaning s = atom_automaton s.shape (right_of s.upper s.lower)

abbrev pub below_meaning : Related Descendant → Automaton
below_meaning s = atom_automaton s.shape (below s.upper s.lower)
