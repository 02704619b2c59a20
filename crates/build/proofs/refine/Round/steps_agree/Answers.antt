-- The rows are compared, and each label and marks have a row.
use Rattle.std.proofs.Common.{ℕ, ◌+◌, ◌/◌, ◌%◌, ◌^◌, length, refl, rules, tests, arith}
use Rattle.std.proofs.lemmas.Iterator.{cases_from_all, YieldsList-from_range}
use Rattle.build.specs.Refinement.{StepAgrees}
use Rattle.build.proofs.Tests.{all_tells}
use Rattle.build.proofs.Refinements.{rows_tell}
use Rattle.build.proofs.refine.Round.steps_agree.Goals as goal

pub returns : goal.returns
returns c =
    let r = c.args.self.now in
    let Agrees : ℕ → Type 0 = λ (row : ℕ). StepAgrees r.layout (length r.classes.now) r.cells.now r.classes.now (r.layout.shape.leaves + row / 2 ^ r.layout.shape.tracks) (row % 2 ^ r.layout.shape.tracks) c.args.x c.args.y in
    rows_tell r.layout (length r.classes.now) r.cells.now r.classes.now c.args.x c.args.y _
    (all_tells _ Agrees _ (cases_from_all _ _ _ Agrees (λ row. Agrees row → ⊥) c.all.ensures.ran (YieldsList-from_range 0 _ _ refl (omega (arith, c.inner_rows.ensures.is)))
    (λ z q k. search (rules, tests)) (λ z q k. search (rules, tests))))
