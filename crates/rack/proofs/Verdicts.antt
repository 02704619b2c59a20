-- What a run over a slot's machine answers is the verdict of the call.
use Rattle.std.proofs.Common.{◌≡◌, ℕ, ◌≤◌, Bool, ltb, List, Ok, Err, Option, Result, refl, ◌∙◌, subst, arith}
use Rattle.trees.specs.declared.refusal.Refusal.{Refusal}
use Rattle.trees.specs.Reading.{first_refusal}
use Rattle.trees.proofs.Fronts.{answers}
use Rattle.automata.specs.Automata.{Automaton}
use Rattle.tables.specs.SlotLaws.{slot_few}
use Rattle.machines.specs.Runs.{Judged}
use Rattle.racks.specs.declared.rack.Rack.{Rack}
use Rattle.racks.specs.Racks.{slot, slot_machine}
use Rattle.racks.specs.Calls.{call_judge, judged}
use Rattle.racks.specs.Log.{Log, KeptIn}
use Rattle.racks.specs.Promises.{judged_by, VerdictLogged, Done}
use Rattle.racks.proofs.Dones.{done, denied}
use Rattle.racks.proofs.Verdicts.{verdict}
use Rattle.store.specs.Checks.{full_chain}

module _ (R : Rack) (store : List ℕ) (k : ℕ) (bs : List ℕ) (places limit : ℕ) (pass : (rest : Option Refusal) → full_chain R store k rest ≡ rest) (wide : 32 ≤ limit) where
  by_slot : (r : Result Bool Refusal) → Judged (slot_machine R store k) limit (λ n. ltb n places) bs r → Done R (call_judge k bs places) store store (judged_by r)
  by_slot (Ok b) j =
      let few = slot_few R.shape R.most (slot R store k) in
      done R (call_judge k bs places) store store (judged b) (
        pass (first_refusal R.shape (λ n. ltb n places) bs) ∙ (answers R.shape (λ n. ltb n places) bs).reads.1 (j.0, j.1),
        (j.0, j.1, j.2 (omega arith)),
      ) refl
  by_slot (Err e) j = denied R (call_judge k bs places) store e (pass (first_refusal R.shape (λ n. ltb n places) bs) ∙ j)

  pub judged_done : (M : Automaton) → M ≡ slot_machine R store k → (r : Result Bool Refusal) → Judged M limit (λ n. ltb n places) bs r
      → Done R (call_judge k bs places) store store (judged_by r)
  judged_done M is r j = by_slot r (subst (λ (m : Automaton). Judged m limit (λ n. ltb n places) bs r) is j)

pub verdict_logged : (R : Rack) (store : List ℕ) (k : ℕ) (bs : List ℕ) (places : ℕ) (r : Result Bool Refusal) → Done R (call_judge k bs places) store store (judged_by r)
    → (log : Log) → KeptIn R log store → VerdictLogged R log k bs places r
verdict_logged R store k bs places (Ok b) d log kept = verdict R log store k bs places b kept d.effect
verdict_logged R store k bs places (Err e) d log kept = tt
