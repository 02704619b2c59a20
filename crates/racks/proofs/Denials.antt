-- A call is denied exactly where a refusal is due.
use Rattle.std.proofs.Common.{◌≡◌, ℕ, true, false, ◌↔◌, List, Some, None, Option, refl, subst, inl, inr}
use Rattle.trees.specs.declared.refusal.Refusal.{Refusal}
use Rattle.racks.specs.declared.rack.Rack.{Rack}
use Rattle.racks.specs.Calls.{Call, Outcome, refused, filled, judged, listed, due, Write, table, zeros, nothing, write, Crowded, Written, Effect, answered_by}
use Rattle.racks.specs.Guarantee.{Due}
use Rattle.racks.proofs.Readings.{judge_writes, list_writes}

none_or_some : (o : Option Refusal) (e : Refusal) → o ≡ None → o ≡ Some e → ⊥
none_or_some o e p q = cc

module _ (R : Rack) (store : List ℕ) where
  roomy : (w : Write) (after : List ℕ) → Written R store w after → ¬ Crowded R w
  roomy (table k M) after p = p.few
  roomy (zeros k) after p = λ z. z
  roomy nothing after p = λ z. z

  untold : (c : Call) → write R store c ≡ nothing → ¬ Crowded R (write R store c)
  untold c e z = subst (Crowded R) e z

  not_due : (c : Call) → due R store c ≡ None → ¬ Crowded R (write R store c) → ¬ Due R store c
  not_due c none few (inl d) = none_or_some (due R store c) d.0 none d.1
  not_due c none few (inr d) = few d.1

  answered : (c : Call) → ¬ Due R store c → (true ≡ false) ↔ Due R store c
  answered c never = ((λ e. absurd (cc)), λ d. absurd (never d))

  pub denied : (c : Call) (o : Outcome) → Effect R store c o → (answered_by o ≡ false) ↔ Due R store c
  denied c (refused e) f = ((λ _. why f), λ _. refl)
    where
      why : Effect R store c (refused e) → Due R store c
      why (inl d) = inl (e, d)
      why (inr d) = inr (d.0, d.2)
  denied c (filled after) f = answered c (not_due c f.0 (roomy (write R store c) after f.1))
  denied c (judged b) f = answered c (not_due c f.0 (untold c (judge_writes R store c b f.1)))
  denied c (listed text) f = answered c (not_due c f.0 (untold c (list_writes R store c text f.1)))
