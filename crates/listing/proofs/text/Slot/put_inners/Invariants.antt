-- The lines of the labels before are put.
use Rattle.std.proofs.Common.{◌-◌}
use Rattle.tables.specs.Texts.{over}
use Rattle.listing.specs.Sinks.{Takes}
use Rattle.listing.specs.Rows.{read, marks_text}
use Rattle.listing.proofs.text.Slot.put_inners.Given as goal

abbrev pub invariant-loop-label : goal.invariant-loop-label
invariant-loop-label g l =
    Takes g.S.Sink.took l.initial.sink l.sink
    (over l.self.layout.shape.leaves (l.label - l.self.layout.shape.leaves) (marks_text l.self.layout.shape (read l.self)))
