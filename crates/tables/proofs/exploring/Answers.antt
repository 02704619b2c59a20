use Rattle.tables.proofs.exploring.Goals as goal
use Rattle.std.proofs.Common.{arith}
use Rattle.tables.proofs.Discovers.{none_asked, known_step, new_step}
use Rattle.tables.proofs.Ends.{explored}
use Rattle.tables.proofs.TooManies.{too_many_upto, too_many_new, too_many_found}

pub returns : goal.returns
returns c = record {
  none = none_asked;
  known = known_step;
  new = new_step;
  end = explored;
  many = too_many_upto;
  full = too_many_new;
  few = λ M codes E ex N h many. omega (arith, too_many_found M codes E ex N many);
}
