-- The bytes stand in the slot.
use Rattle.racks.specs.Promises.{lent}
use Rattle.filling.proofs.Ends.{denied, placed}
use Rattle.filling.proofs.filling.fill.Goals as goal

pub returns-in_err-place-clause-done : goal.returns-in_err-place-clause-done
returns-in_err-place-clause-done g c =
    denied c.args.rack c.args.store.now c.args.res (g.F.Filling.call c.args.filling.now c.args.res (lent c.args.codes.now c.args.cells.now c.args.classes.now)) _ _
    c.from_residual.ensures.1 c.in_err-place.ensures.fills

pub returns-clause-done : goal.returns-clause-done
returns-clause-done g c =
    placed c.args.rack c.args.store.now c.args.res (g.F.Filling.call c.args.filling.now c.args.res (lent c.args.codes.now c.args.cells.now c.args.classes.now))
    c.in_ok-place.place c.build.new.working.cells.now c.put.new.store c.in_ok-place.ensures.fills c.put.ensures
