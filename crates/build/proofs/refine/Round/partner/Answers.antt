-- The codes before x are tried in order.
use Rattle.std.proofs.Common.{ℕ, length, sym, subst, rules}
use Rattle.std.proofs.lemmas.Iterator.{first_from_Range}
use Rattle.build.specs.Refinement.{Agreed}
use Rattle.build.proofs.Tests.{first_tells}
use Rattle.build.proofs.refine.Round.partner.Goals as goal

pub returns : goal.returns
returns c =
    let r = c.args.self.now in
    let Agrees : ℕ → Type 0 = λ (y : ℕ). Agreed r.layout (length r.classes.now) r.cells.now r.classes.now y c.args.x in
    first_tells c.args.x Agrees _ (first_from_Range _ _ _ c.find.result Agrees (λ y. Agrees y → ⊥) c.find.ensures.ran
    (λ y q k. let h : Agrees k.shown.now = search rules in subst Agrees k.shows h)
    (λ y q k. let h : Agrees k.shown.now → ⊥ = search rules in (search rules, λ a. h (subst Agrees (sym k.shows) a))))
