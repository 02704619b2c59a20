-- The image's part is built in, and the rest stays.
use Rattle.std.proofs.Common.{◌≡◌, ℕ, length, take, ◌∙◌, subst, ap₂, arith}
use Rattle.std.proofs.lemmas.List.{length-take-le}
use Rattle.tables.specs.Images.{width}
use Rattle.build.specs.Building.{Leaves}
use Rattle.build.proofs.Answering.{answers}
use Rattle.build.proofs.building.build_served.Goals as goal

pub returns : goal.returns
returns g c =
    let M = g.M.Machine.meaning c.args.machine.now in
    let made = rw c.in_ok-layout.ensures.ok_part at c.served.ensures in
    let part : length (take c.width-width.result c.args.cells.now) ≡ c.width-width.result = length-take-le _ _ (omega (arith, made.2.cells_lent, c.width-width.ensures)) in
    answers M c.args.most _ _ c.args.cells.now c.build_image.new.cells c.width-width.result _ made.0
    (c.width-width.ensures ∙ ap₂ width made.2.shape made.1) (c.build_image.auto.cells ∙ part) part
    c.build_image.result (subst (λ (N : ℕ). Leaves M N (length (take c.width-width.result c.args.cells.now)) c.build_image.new.cells c.build_image.result) made.1 c.build_image.ensures)
