use Rattle.tables.proofs.building.Goals as goal
use Rattle.tables.proofs.Merges.{merged_table_of}

pub returns : goal.returns
returns c = merged_table_of
