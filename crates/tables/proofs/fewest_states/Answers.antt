use Rattle.tables.proofs.fewest_states.Goals as goal
use Rattle.tables.proofs.TableStates.{table_states, fewest}

pub returns : goal.returns
returns c = record { states = table_states; fewest = fewest }
