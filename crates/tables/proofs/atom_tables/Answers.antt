use Rattle.tables.proofs.atom_tables.Goals as goal
use Rattle.automata.specs.Atoms.{atom_automaton}
use Rattle.automata.proofs.AtomAutomata.{atom_lawful}
use Rattle.automata.proofs.AtomStates.{atom_states}
use Rattle.tables.proofs.OwnTables.{reached_lt, own_table_of, own_explored, own_merged}

pub returns : goal.returns
returns c = record {
  table = λ sh A ok fits. own_table_of (atom_automaton sh A) (reached_lt (atom_automaton sh A) (atom_lawful sh A)) (atom_states sh A ok fits);
  explored = λ sh A ok fits. own_explored (atom_automaton sh A) (atom_lawful sh A) (atom_states sh A ok fits);
  merged = λ sh A ok fits. own_merged (atom_automaton sh A) (atom_lawful sh A) (atom_states sh A ok fits);
}
