-- A turn more, and the last turn of a ring.
use Rattle.std.proofs.Common.{◌≡◌, ℕ, ◌+◌, ◌*◌, refl, sym, ap, ap₂, arith}
use Rattle.trees.specs.declared.shape.Shape.{Shape}
use Rattle.tables.specs.Images.{leaf_rows, inner_rows}
use Rattle.slots.specs.declared.layout.Layout.{Layout}
use Rattle.build.proofs.Turns.{kept_along, discovering_at}
use Rattle.build.proofs.found.Found.ask_ring.Goals as goal

next_ring : (r : ℕ) → r * r + (2 * r + 1) ≡ (r + 1) * (r + 1)
next_ring r = omega arith

pub loop-turn-init : goal.loop-turn-init
loop-turn-init g c = record { kept = record { layout = refl; codes = refl; cells = refl; more = omega arith }; asked = discovering_at (omega arith) c.requires.sofar }

place_at : (s t : Shape) (m n : ℕ) → s ≡ t → m ≡ n → leaf_rows s + m * inner_rows s ≡ leaf_rows t + n * inner_rows t
place_at s t m n e f = ap₂ (λ (r : Shape) (k : ℕ). leaf_rows r + k * inner_rows r) e f

pub loop-turn-preserved : goal.loop-turn-preserved
loop-turn-preserved g c = record {
  kept = kept_along _ _ _ c.loop-turn.invariant.kept c.in_ok-ask_pair.ensures.kept;
  asked = discovering_at (place_at _ _ _ _ (sym (ap (λ (l : Layout). l.shape) c.in_ok-ask_pair.ensures.kept.layout)) (omega (arith, c.pair_at-x.ensures.place))) c.in_ok-ask_pair.ensures.asked;
}

pub returns-clause-asked : goal.returns-clause-asked
returns-clause-asked g c =
    discovering_at (place_at _ _ _ _ (ap (λ (l : Layout). l.shape) c.loop-turn.invariant.kept.layout) (omega (arith, next_ring c.args.ring, c.loop-turn-test.false, c.loop-turn.auto.turn-end)))
    c.loop-turn.invariant.asked
