-- The fields before are put.
use Rattle.std.proofs.Common.{ℕ, map, take}
use Rattle.tables.specs.Texts.{fields}
use Rattle.listing.specs.Sinks.{Takes, Computes}
use Rattle.listing.proofs.text.put_fields.Given as goal

abbrev pub invariant-loop-byte : goal.invariant-loop-byte
invariant-loop-byte g l =
    (of : ℕ → ℕ) → Computes (goal.F-post g l.number) of → Takes g.S.Sink.took l.initial.sink l.sink (fields (map of (take l.byte-index l.bytes)))
