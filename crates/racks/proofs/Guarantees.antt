-- The guarantee of kept racks.
use Rattle.std.proofs.Common.{ℕ, List}
use Rattle.racks.specs.declared.rack.Rack.{Rack}
use Rattle.racks.specs.Racks.{slot, is_taken}
use Rattle.racks.specs.Log.{Log, logged, has_rule}
use Rattle.racks.specs.Guarantee.{Guaranteed, Guarantee}
use Rattle.racks.proofs.Holdings.{held_right}
use Rattle.racks.proofs.Invariants.{Invariant, limits_in, taken_in, held_at}
use Rattle.racks.proofs.Runs.{invariant}
use Rattle.racks.proofs.Tellings.{told}
use Rattle.racks.proofs.Denials.{denied}
use Rattle.racks.proofs.Verdicts.{verdict}
use Rattle.racks.proofs.Lists.{lists}
use Rattle.racks.proofs.Few.{small}

guaranteed : (R : Rack) (log : Log) (store : List ℕ) → Invariant R (logged log) store → Guaranteed R log store
guaranteed R log store v = record {
  taken = taken_in R (logged log) store v;
  accepted = λ k r h e. held_right R (limits_in R (logged log) store v) r (slot R store k) (held_at R (logged log) store v k r h e);
  told = told (is_taken R store) (has_rule log) R store (taken_in R (logged log) store v);
  denied = denied R store;
}

pub guarantee : Guarantee
guarantee = record {
  slots = λ R log store kept. guaranteed R log store (invariant R log store kept);
  verdicts = verdict;
  lists = lists;
  small = small;
}
