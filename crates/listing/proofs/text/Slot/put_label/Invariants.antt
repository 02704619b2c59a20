-- The lines of the marks before are put.
use Rattle.tables.specs.Texts.{over}
use Rattle.listing.specs.Sinks.{Takes}
use Rattle.listing.specs.Rows.{read, lefts_text}
use Rattle.listing.proofs.text.Slot.put_label.Given as goal

abbrev pub invariant-loop-marks : goal.invariant-loop-marks
invariant-loop-marks g l =
    Takes g.S.Sink.took l.initial.sink l.sink
    (over 0 l.marks (lefts_text (read l.self) l.label))
