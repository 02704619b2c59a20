-- A product over slots is never refused.
use Rattle.racks.specs.Racks.{slot_machine}
use Rattle.layers.specs.Product.{product_meaning}
use Rattle.store.proofs.Moving.{machine_at}
use Rattle.filling.specs.Fillings.{table_meaning}
use Rattle.filling.proofs.Layers.{paired, product_made}
use Rattle.filling.proofs.fillings.Pair.machine.Goals as goal

pub returns : goal.returns
returns g c =
    let R = c.args.slots.rack in
    let left = machine_at c.slot.ensures _ c.machine-left.ensures in
    let right = machine_at c.slot-2.ensures _ c.machine-right.ensures in
    product_made g.C.Connective.op (product_meaning g.C.Connective.op table_meaning table_meaning)
    (slot_machine R c.args.slots.store.now c.args.self.now.left) (slot_machine R c.args.slots.store.now c.args.self.now.right)
    (table_meaning c.machine-left.result) (table_meaning c.machine-right.result) _ left right
    (paired R c.args.slots.store.now c.args.self.now.left c.args.self.now.right _ _ left right) c.of.ensures
