-- A row's label is an inner label.
use Rattle.std.proofs.Common.{◌<◌, arith}
use Rattle.trees.proofs.Limits.{bounds}
use Rattle.tables.proofs.Questions.{inner_rows_le}
use Rattle.build.proofs.Turns.{row_label, row_marks, row_inner}
use Rattle.build.proofs.steps.inner_step.Goals as goal

pub step-nth-requires : goal.step-nth-requires
step-nth-requires c = omega (arith, inner_rows_le c.args.layout.shape c.args.layout.within.shape)

pub overflow_add-result : goal.overflow_add-result
overflow_add-result c =
    let b = bounds c.args.layout.shape c.args.layout.within.shape in
    let z : c.step-nth.result.0 < c.args.layout.shape.inners = row_label c.args.layout.shape _ _ _ c.step-nth.ensures.label c.step-nth.ensures.marks _ c.requires in
    omega (arith, z, b.leaves, b.inners)

pub returns-clause-asked : goal.returns-clause-asked
returns-clause-asked c = (
  row_inner c.args.layout.shape _ _ _ c.step-nth.ensures.label c.step-nth.ensures.marks c.requires,
  row_marks c.args.layout.shape _ _ _ c.step-nth.ensures.label c.step-nth.ensures.marks,
)
