use Rattle.tables.proofs.table_examples.Goals as goal
use Rattle.tables.proofs.Examples.{table_examples_lem}

pub returns : goal.returns
returns c = table_examples_lem
