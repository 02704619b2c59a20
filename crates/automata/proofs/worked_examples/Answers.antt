use Rattle.std.proofs.Common.{refl}
use Rattle.automata.proofs.Examples.{atom_examples}
use Rattle.automata.proofs.worked_examples.Goals as goal

pub returns : goal.returns
returns c = record { readings = refl; atoms = atom_examples }
