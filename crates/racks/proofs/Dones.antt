-- A call by its effect leaves a kept rack kept.
use Rattle.std.proofs.Common.{◌≡◌, ℕ, List, ◌∷◌, Some, sym, refl, subst, inl}
use Rattle.racks.specs.declared.rack.Rack.{Rack}
use Rattle.trees.specs.declared.refusal.Refusal.{Refusal}
use Rattle.racks.specs.Calls.{Call, Outcome, refused, due, Effect, store_after}
use Rattle.racks.specs.Log.{entry, KeptIn, called}
use Rattle.racks.specs.Promises.{Done}

pub done : (R : Rack) (c : Call) (before after : List ℕ) (o : Outcome) → Effect R before c o → after ≡ store_after before o → Done R c before after o
done R c before after o f e = record {
  effect = f;
  leaves = e;
  kept = λ log k. subst (KeptIn R (entry c o ∷ log)) (sym e) (called before c o k f);
}

-- a refusal that is due changes nothing
pub denied : (R : Rack) (c : Call) (store : List ℕ) (e : Refusal) → due R store c ≡ Some e → Done R c store store (refused e)
denied R c store e d = done R c store store (refused e) (inl d) refl
