use Rattle.tables.proofs.table_of_table.Goals as goal
use Rattle.tables.specs.Tables.{table_automaton}
use Rattle.tables.proofs.TableStates.{table_again}
use Rattle.tables.proofs.Canon.{one_table}

pub returns : goal.returns
returns c = record {
  one = one_table;
  itself = table_again;
  only = λ M A B o o'. one_table (table_automaton M.shape A) A B (table_again M A o) o';
}
