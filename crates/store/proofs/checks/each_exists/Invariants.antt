-- The slots so far exist, and what is due is due to those that are left.
use Rattle.std.proofs.Common.{◌≡◌, ℕ, ◌<◌, drop, Option, slice_index_or}
use Rattle.trees.specs.declared.refusal.Refusal.{Refusal}
use Rattle.store.specs.Checks.{check_slots}
use Rattle.store.proofs.checks.each_exists.Given as goal

abbrev pub invariant-loop-number : goal.invariant-loop-number
invariant-loop-number l = record {
  there : (k d : ℕ) → k < l.number-index → slice_index_or l.numbers k d < l.slots.rack.slots;
  due : (rest : Option Refusal) → check_slots l.slots.rack l.numbers rest ≡ check_slots l.slots.rack (drop l.number-index l.numbers) rest;
}
