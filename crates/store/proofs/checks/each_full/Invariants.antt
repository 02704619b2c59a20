-- What is due is due to the slots that are left.
use Rattle.std.proofs.Common.{◌≡◌, drop, Option}
use Rattle.trees.specs.declared.refusal.Refusal.{Refusal}
use Rattle.racks.specs.Racks.{is_taken}
use Rattle.store.specs.Checks.{check_fulls}
use Rattle.store.proofs.checks.each_full.Given as goal

abbrev pub invariant-loop-number : goal.invariant-loop-number
invariant-loop-number l =
    (rest : Option Refusal) → check_fulls (is_taken l.slots.rack l.slots.store.now) l.numbers rest
    ≡ check_fulls (is_taken l.slots.rack l.slots.store.now) (drop l.number-index l.numbers) rest
