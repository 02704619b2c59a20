use Rattle.racks.proofs.laws.guarantee.Goals as goal
use Rattle.racks.proofs.Guarantees.{guarantee}

pub returns : goal.returns
returns c = guarantee
