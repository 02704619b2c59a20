use Rattle.tables.proofs.tables_accept.Goals as goal
use Rattle.tables.proofs.TableRuns.{table_accepts, closed, table_lawful}
use Rattle.tables.proofs.TableStates.{some_state}

pub returns : goal.returns
returns c = record { accepts = table_accepts; closed = closed; lawful = table_lawful; some = some_state }
