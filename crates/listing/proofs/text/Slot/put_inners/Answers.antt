-- The lines of one inner label more.
use Rattle.std.proofs.Common.{◌≡◌, ℕ, ◌+◌, ◌-◌, ap, arith}
use Rattle.tables.specs.Texts.{over}
use Rattle.listing.specs.Rows.{read, marks_text}
use Rattle.listing.proofs.Takings.{takes_is, takes_over}
use Rattle.listing.proofs.text.Slot.put_inners.Goals as goal

pub loop-label-preserved : goal.loop-label-preserved
loop-label-preserved g c =
    let sh = c.args.self.now.layout.shape in
    let e : c.loop-label.label - sh.leaves + 1 ≡ c.loop-label.label + 1 - sh.leaves = omega arith in
    takes_is (ap (λ (n : ℕ). over sh.leaves n (marks_text sh (read c.args.self.now))) e)
    (takes_over (marks_text sh (read c.args.self.now)) sh.leaves (c.loop-label.label - sh.leaves) c.loop-label.label (omega arith)
    c.loop-label.invariant c.put_label.ensures)
