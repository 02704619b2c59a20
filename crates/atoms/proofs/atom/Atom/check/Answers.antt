use Rattle.std.proofs.Common.{rules}
use Rattle.atoms.specs.Making.{asked}
use Rattle.atoms.proofs.Made.{made}
use Rattle.atoms.proofs.atom.Atom.check.Goals as goal

pub returns : goal.returns
returns c = made c.args.shape (asked c.args.self) (search rules)
