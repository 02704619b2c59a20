-- From no question to the last ring.
use Rattle.std.proofs.Common.{refl, ap, ◌∙◌, arith, rules}
use Rattle.tables.specs.Images.{leaf_rows}
use Rattle.slots.specs.declared.layout.Layout.{Layout}
use Rattle.build.proofs.Turns.{discovering_at}
use Rattle.build.proofs.Ends.{discovered}
use Rattle.build.proofs.discover.discover.Goals as goal

pub loop-ring-init : goal.loop-ring-init
loop-ring-init g c = record {
  kept = record { layout = refl; codes = refl; cells = refl; more = omega arith };
  rings = omega arith;
  asked = discovering_at (omega (arith, ap (λ (l : Layout). leaf_rows l.shape) c.in_ok-ask_leaves.ensures.kept.layout)) c.in_ok-ask_leaves.ensures.asked;
}

pub returns : goal.returns
returns g c =
    discovered _ c.loop-ring.found c.args.layout c.loop-ring.ring _ _ (search rules) (search rules) (c.loop-ring.invariant.kept.layout ∙ c.in_ok-ask_leaves.ensures.kept.layout)
    c.loop-ring-test.false c.loop-ring.invariant.asked
