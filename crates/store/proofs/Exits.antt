-- What `?` hands on.
use Rattle.std.proofs.Common.{◌≡◌, List, ℕ, IsErrAnd, Err, Result, sym, ap, ◌∙◌, subst}
use Rattle.std.proofs.lemmas.Result.{err_from_is_err_and}
use Rattle.trees.specs.declared.refusal.Refusal.{Refusal}
use Rattle.racks.specs.declared.rack.Rack.{Rack}
use Rattle.racks.specs.Calls.{Call, Outcome, refused}
use Rattle.racks.specs.Promises.{Done}

handed : {A : Type 0} (r : Result A Refusal) (e : Refusal) → IsErrAnd r (λ y. y ≡ e) → r ≡ Err e
handed r e by = let p = err_from_is_err_and r by in p.1 ∙ ap (λ (y : Refusal). Err y) p.2

-- the outcome of a call whose refusal is handed on
pub handed_on : {A : Type 0} (R : Rack) (store : List ℕ) (c : Call) (outcome : Result A Refusal → Outcome) → ((e : Refusal) → outcome (Err e) ≡ refused e)
    → (r : Result A Refusal) (e : Refusal) → IsErrAnd r (λ y. y ≡ e) → Done R c store store (refused e) → Done R c store store (outcome r)
handed_on {A} R store c outcome is r e by d =
    subst (λ (x : Result A Refusal). Done R c store store (outcome x)) (sym (handed r e by)) (subst (Done R c store store) (sym (is e)) d)
