use Rattle.tables.proofs.canonical.Goals as goal
use Rattle.tables.proofs.Canon.{same_table, accept_same}

pub returns : goal.returns
returns c M M' A B e o o' = (same_table M M' A B e o o', accept_same M M' A B e o o')
