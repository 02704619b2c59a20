-- The checks ask only which slots of the rack are taken.
use Rattle.std.proofs.Common.{◌≡◌, ℕ, ◌<◌, Bool, true, false, not, ltb, List, Option, refl, ap, ap₂}
use Rattle.std.proofs.lemmas.Bool.{ltb-true}
use Rattle.trees.specs.declared.refusal.Refusal.{Refusal}
use Rattle.trees.specs.Reading.{check}
use Rattle.racks.specs.declared.rack.Rack.{Rack}
use Rattle.racks.specs.Calls.{Call, call_atom, call_not, call_both, call_either, call_some, call_take, call_drop, call_judge, call_list, check_open, check_slot, check_free, check_full, due_by}

-- what is due after a check may differ where the check refuses
after_check : (ok : Bool) (e : Refusal) (x y : Option Refusal) → (ok ≡ true → x ≡ y) → check ok e x ≡ check ok e y
after_check true e x y h = h refl
after_check false e x y h = refl

same_check : (a b : Bool) (e : Refusal) (x y : Option Refusal) → a ≡ b → x ≡ y → check a e x ≡ check b e y
same_check a b e x y p q = ap₂ (λ (ok : Bool) (rest : Option Refusal). check ok e rest) p q

module _ (f g : ℕ → Bool) (R : Rack) (store : List ℕ) (same : (k : ℕ) → k < R.slots → f k ≡ g k) where
  within : (k : ℕ) (x y : Option Refusal) → (f k ≡ g k → x ≡ y) → check_slot R k x ≡ check_slot R k y
  within k x y h = after_check (ltb k R.slots) _ x y (λ e. h (same k (ltb-true k R.slots e)))

  free : (k : ℕ) (x y : Option Refusal) → f k ≡ g k → x ≡ y → check_free f k x ≡ check_free g k y
  free k x y e h = same_check (not (f k)) (not (g k)) _ x y (ap not e) h

  full : (k : ℕ) (x y : Option Refusal) → f k ≡ g k → x ≡ y → check_full f k x ≡ check_full g k y
  full k x y e h = same_check (f k) (g k) _ x y e h

  pub told : (c : Call) → due_by f R store c ≡ due_by g R store c
  told (call_atom k A l) = ap (check_open R store) (within k _ _ λ hk. free k _ _ hk refl)
  told (call_not k x l) = ap (check_open R store) (within k _ _ λ hk. within x _ _ λ hx. free k _ _ hk (full x _ _ hx refl))
  told (call_both k x y l) =
      ap (check_open R store) (within k _ _ λ hk. within x _ _ λ hx. within y _ _ λ hy. free k _ _ hk (full x _ _ hx (full y _ _ hy refl)))
  told (call_either k x y l) =
      ap (check_open R store) (within k _ _ λ hk. within x _ _ λ hx. within y _ _ λ hy. free k _ _ hk (full x _ _ hx (full y _ _ hy refl)))
  told (call_some k x i l) = ap (check_open R store) (within k _ _ λ hk. within x _ _ λ hx. free k _ _ hk (full x _ _ hx refl))
  told (call_take k M l) = ap (check_open R store) (within k _ _ λ hk. free k _ _ hk refl)
  told (call_drop k) = ap (check_open R store) (within k _ _ λ hk. full k _ _ hk refl)
  told (call_judge k bs places) = ap (check_open R store) (within k _ _ λ hk. full k _ _ hk refl)
  told (call_list k room) = ap (check_open R store) (within k _ _ λ hk. full k _ _ hk refl)
