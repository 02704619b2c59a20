-- The steps with each code are compared.
use Rattle.std.proofs.Common.{ℕ, length, refl, sym, rules, tests, arith}
use Rattle.std.proofs.lemmas.Iterator.{cases_from_all, YieldsList-from_range}
use Rattle.build.specs.Refinement.{AgreesWith}
use Rattle.build.proofs.Tests.{all_tells}
use Rattle.build.proofs.refine.Round.row_agrees.Goals as goal

pub returns : goal.returns
returns c =
    let r = c.args.self.now in
    let n = length r.classes.now in
    let Agrees : ℕ → Type 0 = AgreesWith r.layout r.cells.now r.classes.now c.inner_step-label.result.0 c.inner_step-label.result.1 c.args.x c.args.y in
    rw (sym c.inner_step-label.ensures.label, sym c.inner_step-label.ensures.marks)
    (all_tells n Agrees _ (cases_from_all _ _ _ Agrees (λ z. Agrees z → ⊥) c.all.ensures.ran (YieldsList-from_range 0 n n refl (omega arith))
    (λ z q k. search (rules, tests)) (λ z q k. search (rules, tests))))
