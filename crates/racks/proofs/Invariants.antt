-- What holds along a log: each slot holds what its rule says. It is a matter of the front of the store, and stays so when a slot is written.
use Rattle.std.proofs.Common.{◌≡◌, ℕ, ◌+◌, ◌*◌, ◌<◌, ◌≤◌, Bool, true, false, cond, eqb, ◌⊎◌, List, length, take, replicate, Some, None, Option, sym, refl, ap, ◌∙◌, subst, inl, inr, arith}
use lib.ListN.{length-replicate}
use Rattle.std.proofs.lemmas.List.{length-take}
use Rattle.std.proofs.lemmas.Bool.{eqb-true, eqb-false, cases_order}
use Rattle.automata.specs.Rules.{Rule}
use Rattle.racks.specs.declared.rack.Rack.{Rack}
use Rattle.racks.specs.Racks.{rack_fits, slot_bytes, store_bytes, slot, put_slot, is_taken}
use Rattle.racks.specs.Log.{give, is_rule}
use Rattle.racks.proofs.Stores.{ends, in_front, all_zeros, written_length, written_here, written_there}
use Rattle.racks.proofs.Passes.{Limits, limits_of}
use Rattle.racks.proofs.Holdings.{Holding, SlotHolds, slot_taken}

pub record Invariant (R : Rack) (rules : ℕ → Option Rule) (store : List ℕ) : Type 0 where
  pub fits : rack_fits R ≡ true
  pub room : store_bytes R ≤ length store
  pub each : (k : ℕ) → k < R.slots → SlotHolds R (slot R store k) (rules k)

module _ (R : Rack) where
  abbrev W : ℕ
  W = slot_bytes R

  slot_ends : (k n : ℕ) → k < R.slots → store_bytes R ≤ n → k * W + W ≤ n
  slot_ends k n h room = omega (arith, ends (W) k R.slots h)

  pub all_empty : rack_fits R ≡ true → Invariant R (λ k. None) (replicate (store_bytes R) 0)
  all_empty fits = record {
    fits = fits;
    room = omega (arith, length-replicate {A = ℕ} (store_bytes R) 0);
    each = λ k h. all_zeros (W) (store_bytes R) k (ends (W) k R.slots h);
  }

  module _ (rules : ℕ → Option Rule) (store : List ℕ) where
    front_slot : (k : ℕ) → k < R.slots → slot R (take (store_bytes R) store) k ≡ slot R store k
    front_slot k h = in_front (W) store (store_bytes R) k (ends (W) k R.slots h)

    pub from_front : Invariant R rules (take (store_bytes R) store) → Invariant R rules store
    from_front v = record {
      fits = v.fits;
      room = omega (arith, v.room, length-take (store_bytes R) store);
      each = λ k h. subst (λ (bs : List ℕ). SlotHolds R bs (rules k)) (front_slot k h) (v.each k h);
    }

    pub to_front : Invariant R rules store → Invariant R rules (take (store_bytes R) store)
    to_front v = record {
      fits = v.fits;
      room = omega (arith, v.room, length-take (store_bytes R) store);
      each = λ k h. subst (λ (bs : List ℕ). SlotHolds R bs (rules k)) (sym (front_slot k h)) (v.each k h);
    }

    module _ (v : Invariant R rules store) where
      pub limits_in : Limits R
      limits_in = limits_of R v.fits

      pub taken_in : (k : ℕ) → k < R.slots → is_taken R store k ≡ is_rule (rules k)
      taken_in k h = slot_taken R limits_in store k (rules k) (v.each k h)

      pub held_at : (k : ℕ) (r : Rule) → k < R.slots → rules k ≡ Some r → Holding R r (slot R store k)
      held_at k r h e = subst (SlotHolds R (slot R store k)) e (v.each k h)

      -- a slot that is taken has a rule
      pub rule_of : (k : ℕ) → k < R.slots → is_taken R store k ≡ true → (r : Rule) × (rules k ≡ Some r) × Holding R r (slot R store k)
      rule_of k h full = go (rules k) refl (sym (taken_in k h) ∙ full)
        where
          go : (o : Option Rule) → rules k ≡ o → is_rule o ≡ true → (r : Rule) × (rules k ≡ Some r) × Holding R r (slot R store k)
          go None e z = absurd (cc)
          go (Some r) e z = (r, e, held_at k r h e)

      pub wrote : (k : ℕ) (bs : List ℕ) (o : Option Rule) → k < R.slots → length bs ≡ W → SlotHolds R bs o
          → Invariant R (give k o rules) (put_slot R k bs store)
      wrote k bs o h long s = record {
        fits = v.fits;
        room = omega (arith, v.room, written_length W store bs k long end);
        each = λ j l. at j l (eqb j k) refl;
      }
        where
          end : k * W + W ≤ length store
          end = slot_ends k (length store) h v.room

          apart : (j : ℕ) → (j ≡ k → ⊥) → (j ≡ k) ⊎ ((j < k) ⊎ (k < j)) → (j < k) ⊎ (k < j)
          apart j ne (inl e) = absurd (ne e)
          apart j ne (inr d) = d

          at : (j : ℕ) → j < R.slots → (b : Bool) → eqb j k ≡ b → SlotHolds R (slot R (put_slot R k bs store) j) (cond b o (rules j))
          at j l true e =
              let z : j ≡ k = eqb-true j k e in
              subst (λ (x : List ℕ). SlotHolds R x o) (sym (ap (slot R (put_slot R k bs store)) z ∙ written_here W store bs k long end)) s
          at j l false e =
              subst (λ (x : List ℕ). SlotHolds R x (rules j)) (sym (written_there W store bs k long end j (apart j (eqb-false j k e) (cases_order j k))))
              (v.each j l)
