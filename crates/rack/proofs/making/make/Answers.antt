-- The rack of the shape that was made is the rack of the numbers.
use Rattle.racks.specs.Promises.{rack_of}
use Rattle.racks.proofs.Guarantees.{guarantee}
use Rattle.rack.proofs.Made.{made_rack, shape_made, rack_made}
use Rattle.rack.proofs.making.make.Goals as goal

pub returns-in_default-clause-whole : goal.returns-in_default-clause-whole
returns-in_default-clause-whole c = guarantee

pub returns-in_err-width-clause-whole : goal.returns-in_err-width-clause-whole
returns-in_err-width-clause-whole c = guarantee

pub returns : goal.returns
returns c = record {
  made = made_rack _ (rack_of c.args.leaves c.args.inners c.args.tracks c.args.most c.args.slots)
      (rack_made c.in-Some.shape _ c.args.most c.args.slots (shape_made _ _ _ c.in-Some.shape c.in-Some.ensures))
      c.args.store.now c.in_ok-width.field-0 c.fill.new.self c.in_ok-width.ensures.0 c.in_ok-width.ensures.1 (c.fill.ensures.after (λ y h. h));
  whole = guarantee;
}
