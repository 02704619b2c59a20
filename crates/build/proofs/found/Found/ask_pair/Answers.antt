-- A row more over the pair.
use Rattle.std.proofs.Common.{refl, add-mul, arith}
use Rattle.std.proofs.lemmas.Result.{MatchResult-from_err}
use Rattle.automata.specs.Numbering.{pair_place}
use Rattle.tables.specs.Images.{inner_rows}
use Rattle.build.proofs.Turns.{inner_turn, noted_turn, noted_too_many, kept_along, discovering_at}
use Rattle.build.proofs.found.Found.ask_pair.Goals as goal

pub loop-row-init : goal.loop-row-init
loop-row-init g c = record { kept = record { layout = refl; codes = refl; cells = refl; more = omega arith }; asked = discovering_at (omega arith) c.requires.sofar }

pub note-requires : goal.note-requires
note-requires g c =
    (inner_turn _ _ _ c.loop-row.invariant.kept.layout _ c.loop-row.invariant.asked c.loop-row.row c.args.x c.args.y _ _ _ _ refl
    (omega (arith, c.loop-row-test.true, c.inner_rows-row-end.ensures.is)) (omega (arith, c.requires.over, c.loop-row.invariant.kept.more)) (omega (arith, c.requires.over, c.loop-row.invariant.kept.more))
    c.inner_step-label.ensures.label c.inner_step-label.ensures.marks refl c.inner_address.ensures).low

pub returns-in_err-note-clause-asked : goal.returns-in_err-note-clause-asked
returns-in_err-note-clause-asked g c =
    MatchResult-from_err _ _ _ c.from_residual.ensures.0 (λ _. noted_too_many _ _ _ c.loop-row.invariant.kept.layout _ c.loop-row.invariant.asked _ _
    (inner_turn _ _ _ c.loop-row.invariant.kept.layout _ c.loop-row.invariant.asked c.loop-row.row c.args.x c.args.y _ _ _ _ refl
    (omega (arith, c.loop-row-test.true, c.inner_rows-row-end.ensures.is)) (omega (arith, c.requires.over, c.loop-row.invariant.kept.more)) (omega (arith, c.requires.over, c.loop-row.invariant.kept.more))
    c.inner_step-label.ensures.label c.inner_step-label.ensures.marks c.inner-code.ensures c.inner_address.ensures) c.in_err-note.ensures.noted)

pub loop-row-preserved : goal.loop-row-preserved
loop-row-preserved g c = record {
  kept = kept_along _ _ _ c.loop-row.invariant.kept c.in_ok-note.ensures.kept;
  asked = discovering_at (omega arith) (noted_turn _ _ _ c.loop-row.invariant.kept.layout _ c.loop-row.invariant.asked _ _ _
      (inner_turn _ _ _ c.loop-row.invariant.kept.layout _ c.loop-row.invariant.asked c.loop-row.row c.args.x c.args.y _ _ _ _ refl
      (omega (arith, c.loop-row-test.true, c.inner_rows-row-end.ensures.is)) (omega (arith, c.requires.over, c.loop-row.invariant.kept.more)) (omega (arith, c.requires.over, c.loop-row.invariant.kept.more))
      c.inner_step-label.ensures.label c.inner_step-label.ensures.marks c.inner-code.ensures c.inner_address.ensures) c.in_ok-note.ensures.kept c.in_ok-note.ensures.noted);
}

pub returns-clause-asked : goal.returns-clause-asked
returns-clause-asked g c =
    discovering_at (omega (arith, c.loop-row-test.false, c.inner_rows-row-end.ensures.is, c.loop-row.auto.row-end, add-mul (pair_place c.args.x c.args.y) 1 (inner_rows c.args.self.now.layout.shape)))
    c.loop-row.invariant.asked
