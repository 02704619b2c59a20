use Rattle.tables.proofs.refining.Goals as goal
use Rattle.tables.proofs.Refines.{stable_alike, told_not_alike}
use Rattle.tables.proofs.Rounds.{next_coarse, no_class_lost, alike_numbered}

pub returns : goal.returns
returns c = record {
  stable = stable_alike;
  told = told_not_alike;
  kept = λ M codes E ex class k co f k' nu. (next_coarse M codes E ex class k co f k' nu, no_class_lost M codes E ex class k co f k' nu);
  found = alike_numbered;
}
