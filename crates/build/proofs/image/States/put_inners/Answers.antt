-- One inner cell more: what is read stands no earlier than what is written.
use Rattle.std.proofs.Common.{ℕ, ◌*◌, ◌<◌, length, get_or, ap, subst, inr, ◌∙◌, mul_assoc, arith}
use Rattle.tables.specs.Images.{inner_rows}
use Rattle.build.specs.Refinement.{class_at}
use Rattle.build.proofs.Fills.{filled_more, filled_at}
use Rattle.build.proofs.Sources.{source_lt, source_index, source_ge, byte_of_states, byte_of_none}
use Rattle.build.proofs.image.States.put_inners.Goals as goal
use Rattle.build.proofs.image.States.put_inners.Goals.{in-Some, in-None}

pub bounds-cells-from : goal.bounds-cells-from
bounds-cells-from c =
    let s = c.args.self.now in
    let hj = subst (λ (r : ℕ). c.loop-j.j < r * (s.layout.most * s.layout.most)) c.inner_rows.ensures.is c.loop-j-test.true in
    let z = source_lt s.layout (length s.classes.now) (length s.firsts.now) c.args.cells.now s.classes.now s.firsts.now c.requires s.of_classes c.loop-j.j hj c.in-Some.ensures.0 in
    omega (arith, z, c.in-Some.ensures.1, c.loop-j.auto.cells)

pub bounds-self-from : goal.bounds-self-from
bounds-self-from c =
    let s = c.args.self.now in
    let hj = subst (λ (r : ℕ). c.loop-j.j < r * (s.layout.most * s.layout.most)) c.inner_rows.ensures.is c.loop-j-test.true in
    let e = c.in-Some.ensures.1 in
    let late = source_ge s.layout (length s.classes.now) (length s.firsts.now) c.args.cells.now s.classes.now s.firsts.now c.requires s.of_classes c.loop-j.j hj c.in-Some.ensures.0 in
    let z = source_index s.layout (length s.classes.now) (length s.firsts.now) c.args.cells.now s.classes.now s.firsts.now c.requires s.of_classes c.loop-j.j hj c.in-Some.ensures.0 in
    let same = c.loop-j.invariant.outside c.in-Some.from (inr (omega (arith, late, e))) in
    omega (arith, c.from.ensures, z, same, ap (λ (i : ℕ). get_or c.args.cells.now i 0) e)

pub loop-j-preserved : goal.loop-j-preserved
loop-j-preserved c =
    let s = c.args.self.now in
    let hj = subst (λ (r : ℕ). c.loop-j.j < r * (s.layout.most * s.layout.most)) c.inner_rows.ensures.is c.loop-j-test.true in
    let low = mul_assoc (inner_rows s.layout.shape) s.layout.most s.layout.most in
    filled_more _ _ _ _ c.loop-j.cells _ _ c.loop-j.invariant (omega (arith, c.leaf_rows.ensures.is)) (omega (arith, c.leaf_rows.ensures.is, hj, low, c.requires.lent, c.loop-j.auto.cells))
    (elim c.match-source.branch [
      | in-Some w ↦
          let late = source_ge s.layout (length s.classes.now) (length s.firsts.now) c.args.cells.now s.classes.now s.firsts.now c.requires s.of_classes c.loop-j.j hj w.in-Some.ensures.0 in
          byte_of_states s.layout (length s.firsts.now) c.args.cells.now s.classes.now s.firsts.now c.loop-j.cells c.loop-j.j _ w.in-Some.from w.in-Some.ensures.0 w.in-Some.ensures.1
          (c.loop-j.invariant.outside _ (inr (omega (arith, late, w.in-Some.ensures.1)))) (w.cells-is ∙ ap (class_at s.classes.now) w.from.ensures)
      | in-None w ↦ byte_of_none s.layout (length s.firsts.now) c.args.cells.now s.classes.now s.firsts.now c.loop-j.j _ w.in-None.ensures w.cells-is
    ])
