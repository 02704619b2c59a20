use Rattle.std.proofs.Common.{refl, ◌∙◌, subst}
use Rattle.std.proofs.lemmas.Result.{err_from_is_err_and}
use Rattle.trees.specs.declared.shape.Shape.{Shape}
use Rattle.trees.specs.Reading.{Reads}
use Rattle.trees.specs.Parts.{places}
use Rattle.trees.proofs.Ends.{refusal_due, read_tree}
use Rattle.machines.proofs.running.run.Goals as goal

pub returns-in_err-read-clause-answer : goal.returns-in_err-read-clause-answer
returns-in_err-read-clause-answer g c =
    let p = err_from_is_err_and c.from_residual.result c.from_residual.ensures.1 in
    let e = refusal_due _ _ c.in_err-read.ensures.due in
    rw (p.1, p.2) (rw c.shape.ensures at e)

pub returns-clause-answer : goal.returns-clause-answer
returns-clause-answer g c =
    let h = c.in_ok-read.ensures in
    let w = read_tree _ _ _ _ h.answers h.due in
    let held = h.made w.0 w.1 (refl, (tt, tt)) in
    (w.0, subst (λ (s : Shape). Reads s (places c.args.stack.now) c.args.listing.now w.0) c.shape.ensures w.1, λ fit. c.get.ensures ∙ held.1.0.1 _ fit)
