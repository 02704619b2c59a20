-- A verdict tells whether the logged rule holds of the tree that was read.
use Rattle.std.proofs.Common.{ℕ, Bool, T, ltb, ◌↔◌, List, sym, subst}
use Rattle.trees.specs.Trees.{Tree}
use Rattle.trees.specs.Reading.{Reads}
use Rattle.automata.specs.Rules.{Rule, Holds}
use Rattle.racks.specs.declared.rack.Rack.{Rack}
use Rattle.racks.specs.Racks.{slot, is_taken}
use Rattle.racks.specs.Calls.{call_judge, judged, Judges, Effect}
use Rattle.racks.specs.Log.{Log, logged, KeptIn}
use Rattle.racks.specs.Guarantee.{VerdictRight}
use Rattle.racks.proofs.Passes.{judge_passed}
use Rattle.racks.proofs.Holdings.{Holding, held_right}
use Rattle.racks.proofs.Invariants.{Invariant, limits_in, rule_of}
use Rattle.racks.proofs.Runs.{invariant}

module _ (R : Rack) (log : Log) (store : List ℕ) (k : ℕ) (bs : List ℕ) (places : ℕ) (b : Bool) (kept : KeptIn R log store) where
  v : Invariant R (logged log) store
  v = invariant R log store kept

  judged_right : (r : Rule) → Holding R r (slot R store k) → Judges R store (call_judge k bs places) b
      → (t : Tree) × Reads R.shape (λ n. ltb n places) bs t × (T b ↔ Holds r t)
  judged_right r h (t, reads, says) = (
    t,
    reads,
    subst (λ (c : Bool). T c ↔ Holds r t) (sym says) (held_right R (limits_in R (logged log) store v) r (slot R store k) h t reads.shaped),
  )

  pub verdict : Effect R store (call_judge k bs places) (judged b) → VerdictRight R log k bs places b
  verdict f =
      let p = judge_passed R store (is_taken R store) k bs places f.0 in
      let s = rule_of R (logged log) store v k p.0 p.1 in
      let w = judged_right s.0 s.2 f.1 in
      (s.0, s.1, w.0, w.1, w.2)
