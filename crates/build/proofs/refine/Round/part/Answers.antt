-- One code more has a number: that of its partner, or a new one.
use Rattle.std.proofs.Common.{◌≡◌, ℕ, suc, ◌+◌, length, sym, ◌∙◌, subst, arith}
use Rattle.tables.specs.Rounds.{Numbering}
use Rattle.tables.proofs.Numberings.{joins, opens}
use Rattle.build.specs.Refinement.{Agreed, class_at}
use Rattle.build.proofs.Refinements.{agreed_equivalence, written_other, written_same}
use Rattle.build.proofs.refine.Round.part.Goals as goal
use Rattle.build.proofs.refine.Round.part.Goals.{in-Some, in-None}

-- one more, as the logic and as the code writes it
one_more : (n : ℕ) → suc n ≡ n + 1
one_more n = omega arith

numbering_at : (R : ℕ → ℕ → Type 0) (f : ℕ → ℕ) (n n' k k' : ℕ) → n ≡ n' → k ≡ k' → Numbering R f n k → Numbering R f n' k'
numbering_at R f n n' k k' e d nu = subst (λ (m : ℕ). Numbering R f m k') e (subst (λ (j : ℕ). Numbering R f n j) d nu)

pub loop-x-preserved : goal.loop-x-preserved
loop-x-preserved c =
    let r = c.args.self.now in
    elim c.match-partner.branch [
      | in-Some w ↦ numbering_at (Agreed r.layout (length r.classes.now) r.cells.now r.classes.now) (class_at c.match-partner.next) _ _ _ _ (one_more c.loop-x.x) (sym w.count-is)
          (joins _ (agreed_equivalence r.layout _ _ _) (class_at c.loop-x.next) (class_at c.match-partner.next) _ _ c.loop-x.invariant
          (written_other _ _ _ _ w.next-is) _ w.in-Some.ensures.0 w.in-Some.ensures.1
          (written_same c.loop-x.next c.match-partner.next c.loop-x.x _ w.next-is (omega (arith, c.requires, c.loop-x.auto.next, c.loop-x-test.true))))
      | in-None w ↦ numbering_at (Agreed r.layout (length r.classes.now) r.cells.now r.classes.now) (class_at c.match-partner.next) _ _ _ _ (one_more c.loop-x.x) (one_more c.loop-x.count ∙ sym w.count-is)
          (opens _ (agreed_equivalence r.layout _ _ _) (class_at c.loop-x.next) (class_at c.match-partner.next) _ _ c.loop-x.invariant
          (written_other _ _ _ _ w.next-is) w.in-None.ensures
          (written_same c.loop-x.next c.match-partner.next c.loop-x.x _ w.next-is (omega (arith, c.requires, c.loop-x.auto.next, c.loop-x-test.true))))
    ]

pub returns : goal.returns
returns c =
    let r = c.args.self.now in
    subst (λ (n : ℕ). Numbering (Agreed r.layout (length r.classes.now) r.cells.now r.classes.now) (class_at c.loop-x.next) n c.loop-x.count)
    (omega (arith, c.loop-x-test.false, c.loop-x.auto.x-end)) c.loop-x.invariant
