use Rattle.std.proofs.Common.{◌≤◌, length, All}
use Rattle.console.proofs.numbers.numbers.Given as goal

abbrev pub invariant-loop-word : goal.invariant-loop-word
invariant-loop-word l = (length l.all.items ≤ l.most) × All (λ n. n ≤ l.largest) l.all.items
