-- The invariant holds of every kept rack, by induction over its log.
use Rattle.std.proofs.Common.{ℕ, List, take}
use Rattle.racks.specs.declared.rack.Rack.{Rack}
use Rattle.racks.specs.Racks.{store_bytes}
use Rattle.racks.specs.Calls.{store_after}
use Rattle.racks.specs.Log.{Log, logged, Kept, made, called, KeptIn}
use Rattle.racks.proofs.Invariants.{Invariant, all_empty, from_front, to_front}
use Rattle.racks.proofs.Steps.{step}

along : (R : Rack) (log : Log) (bytes : List ℕ) → Kept R log bytes → Invariant R (logged log) bytes
along R log bytes (made fits) = all_empty R fits
along R log bytes (called {log = before} store c o kept f) =
    to_front R _ (store_after store o) (step R (logged before) store (from_front R (logged before) store (along R before (take (store_bytes R) store) kept)) c o f)

pub invariant : (R : Rack) (log : Log) (store : List ℕ) → KeptIn R log store → Invariant R (logged log) store
invariant R log store kept = from_front R (logged log) store (along R log (take (store_bytes R) store) kept)
