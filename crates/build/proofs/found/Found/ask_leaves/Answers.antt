-- A row more.
use Rattle.std.proofs.Common.{refl, arith}
use Rattle.std.proofs.lemmas.Result.{MatchResult-from_err}
use Rattle.build.proofs.Turns.{leaf_turn, noted_turn, noted_too_many, kept_along, discovering_at}
use Rattle.build.proofs.found.Found.ask_leaves.Goals as goal

pub note-requires : goal.note-requires
note-requires g c =
    (leaf_turn _ _ _ c.loop-row.invariant.kept.layout _ c.loop-row.invariant.asked _ _ _ _ (omega (arith, c.loop-row-test.true, c.leaf_rows-row-end.ensures.is))
    c.step-label.ensures.label c.step-label.ensures.marks refl c.leaf_address.ensures).low

pub returns-in_err-note-clause-asked : goal.returns-in_err-note-clause-asked
returns-in_err-note-clause-asked g c =
    MatchResult-from_err _ _ _ c.from_residual.ensures.0 (λ _. noted_too_many _ _ _ c.loop-row.invariant.kept.layout _ c.loop-row.invariant.asked _ _
    (leaf_turn _ _ _ c.loop-row.invariant.kept.layout _ c.loop-row.invariant.asked _ _ _ _ (omega (arith, c.loop-row-test.true, c.leaf_rows-row-end.ensures.is))
    c.step-label.ensures.label c.step-label.ensures.marks c.leaf-code.ensures c.leaf_address.ensures) c.in_err-note.ensures.noted)

pub loop-row-preserved : goal.loop-row-preserved
loop-row-preserved g c = record {
  kept = kept_along _ _ _ c.loop-row.invariant.kept c.in_ok-note.ensures.kept;
  asked = noted_turn _ _ _ c.loop-row.invariant.kept.layout _ c.loop-row.invariant.asked _ _ _
      (leaf_turn _ _ _ c.loop-row.invariant.kept.layout _ c.loop-row.invariant.asked _ _ _ _ (omega (arith, c.loop-row-test.true, c.leaf_rows-row-end.ensures.is))
      c.step-label.ensures.label c.step-label.ensures.marks c.leaf-code.ensures c.leaf_address.ensures) c.in_ok-note.ensures.kept c.in_ok-note.ensures.noted;
}

pub returns-clause-asked : goal.returns-clause-asked
returns-clause-asked g c = discovering_at (omega (arith, c.loop-row-test.false, c.leaf_rows-row-end.ensures.is, c.loop-row.auto.row-end)) c.loop-row.invariant.asked
