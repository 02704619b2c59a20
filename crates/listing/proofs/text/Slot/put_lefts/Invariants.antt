-- The lines of the left states before are put.
use Rattle.tables.specs.Texts.{over}
use Rattle.listing.specs.Sinks.{Takes}
use Rattle.listing.specs.Rows.{read, inner_line}
use Rattle.listing.proofs.text.Slot.put_lefts.Given as goal

abbrev pub invariant-loop-left : goal.invariant-loop-left
invariant-loop-left g l =
    Takes g.S.Sink.took l.initial.sink l.sink
    (over 0 l.left (inner_line (read l.self) l.label l.marks))
