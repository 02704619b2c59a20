use Rattle.std.proofs.Common.{refl, arith}
use Rattle.trees.proofs.Ends.{read_tree}
use Rattle.trees.proofs.Splits.{leaf_heads, right_fits, inner_heads}
use Rattle.trees.proofs.parts.split.Goals as goal

pub returns-then-label-shape-clause-answer : goal.returns-then-label-shape-clause-answer
returns-then-label-shape-clause-answer c =
    let h = c.in_ok-read.ensures in
    let w = read_tree _ _ _ _ h.answers h.due in
    (w.0, w.1, leaf_heads _ _ _ w.0 w.1 c.if-label-shape.true)

pub overflow_sub-parts : goal.overflow_sub-parts
overflow_sub-parts c =
    let h = c.in_ok-read.ensures in
    let w = read_tree _ _ _ _ h.answers h.due in
    let held = h.made w.0 w.1 (refl, (tt, tt)) in
    omega (arith, right_fits _ _ _ _ c.if-label-shape.false w.0 w.1 held.1.1, c.from-right_bytes.ensures)

pub returns-clause-answer : goal.returns-clause-answer
returns-clause-answer c =
    let h = c.in_ok-read.ensures in
    let w = read_tree _ _ _ _ h.answers h.due in
    let held = h.made w.0 w.1 (refl, (tt, tt)) in
    let cut = c.split_at.ensures in
    (w.0, w.1, inner_heads _ _ _ _ c.if-label-shape.false w.0 w.1 held.1.1 _ _ (rw c.from-right_bytes.ensures at cut.front) (rw c.from-right_bytes.ensures at cut.back))
