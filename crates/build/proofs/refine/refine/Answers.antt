-- Each round starts from classes that alike codes share, and the last parts none.
use Rattle.std.proofs.Common.{◌≡◌, ℕ, length, subst, arith}
use Rattle.tables.proofs.Rounds.{finals_coarse, next_coarse, no_class_lost, alike_numbered}
use Rattle.build.specs.Refinement.{Indexed}
use Rattle.build.proofs.Refinements.{discovered_indexed, round_numbering}
use Rattle.build.proofs.refine.refine.Goals as goal

pub loop-count-init : goal.loop-count-init
loop-count-init g c = finals_coarse _ _ _ _ c.part_finals.ensures

pub invariant_of-round : goal.invariant_of-round
invariant_of-round g c =
    let n : length c.args.codes.now ≡ length c.loop-count.classes = omega (arith, c.requires.lent, c.loop-count.auto.classes) in
    record {
      indexed = subst (λ (n : ℕ). Indexed c.args.layout n c.args.cells.now) n
          (discovered_indexed _ c.args.layout _ _ c.args.codes.now _ _ c.requires.ready c.requires.discovered (omega arith));
    }

pub returns-then-found-count : goal.returns-then-found-count
returns-then-found-count g c =
    alike_numbered _ _ _ c.requires.discovered.all _ _ c.loop-count.invariant _ _
    (round_numbering _ _ _ _ c.args.codes.now _ _ c.requires.ready c.requires.discovered _ _ _ _ _ (omega (arith, c.requires.lent, c.loop-count.auto.classes)) c.copy_from_slice.ensures.after c.part-found.ensures)
    c.if-found-count.true

pub loop-count-smaller : goal.loop-count-smaller
loop-count-smaller g c =
    let z = no_class_lost _ _ _ c.requires.discovered.all _ _ c.loop-count.invariant _ _
    (round_numbering _ _ _ _ c.args.codes.now _ _ c.requires.ready c.requires.discovered _ _ _ _ _ (omega (arith, c.requires.lent, c.loop-count.auto.classes)) c.copy_from_slice.ensures.after c.part-found.ensures) in
    let f = c.part-found.ensures.few in
    omega (arith, z, f, c.if-found-count.false, c.requires.lent, c.loop-count.auto.classes)

pub loop-count-preserved : goal.loop-count-preserved
loop-count-preserved g c =
    next_coarse _ _ _ c.requires.discovered.all _ _ c.loop-count.invariant _ _
    (round_numbering _ _ _ _ c.args.codes.now _ _ c.requires.ready c.requires.discovered _ _ _ _ _ (omega (arith, c.requires.lent, c.loop-count.auto.classes)) c.copy_from_slice.ensures.after c.part-found.ensures)
