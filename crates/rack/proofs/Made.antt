-- A rack that is made is kept under the empty log.
use Rattle.std.proofs.Common.{◌≡◌, ℕ, ◌*◌, ◌≤◌, Bool, true, false, cond, List, [], ◌++◌, length, take, drop, replicate, Some, None, Ok, Option, sym, refl, ap, ◌∙◌, subst, ap₂, arith}
use lib.ListN.{length-replicate}
use Rattle.std.proofs.lemmas.List.{take-append-le, take_all, length-take-le}
use Rattle.trees.specs.declared.shape.Shape.{Shape}
use Rattle.trees.specs.declared.refusal.Refusal.{Refusal}
use Rattle.trees.specs.Shapes.{limits}
use Rattle.racks.specs.declared.rack.Rack.{Rack}
use Rattle.racks.specs.Racks.{rack_fits, slot_bytes, store_bytes}
use Rattle.racks.specs.Calls.{check_open}
use Rattle.racks.specs.Log.{Kept, made, KeptIn}
use Rattle.racks.specs.Promises.{MakesRack}
use Rattle.store.specs.declared.slot.Slots.{Slots}
use Rattle.store.specs.Checks.{IsSlots}

front_zeros : (n : ℕ) (xs : List ℕ) → take n (replicate n 0 ++ xs) ≡ replicate n 0
front_zeros n xs =
    let l = length-replicate n (zero) in
    take-append-le n (replicate n 0) xs (omega (arith, l)) ∙ take_all n (replicate n 0) (omega (arith, l))
  where
    zero : ℕ
    zero = 0

zeroed_kept : (R : Rack) (after rest : List ℕ) → rack_fits R ≡ true → after ≡ replicate (store_bytes R) 0 ++ rest → KeptIn R [] after
zeroed_kept R after rest fits e =
    subst (Kept R []) (sym (ap (take (store_bytes R)) e ∙ front_zeros (store_bytes R) rest)) (made fits)

pub made_rack : (R R' : Rack) → R ≡ R' → (store : List ℕ) (v : Slots) (ys : List ℕ) → IsSlots R store v → ((rest : Option Refusal) → check_open R store rest ≡ rest)
    → ys ≡ replicate (length (take (R.slots * v.width) store)) 0 → MakesRack R' store (ys ++ drop (R.slots * v.width) store) (Ok R)
made_rack R R' same store v ys here pass e =
    subst (λ (Q : Rack). MakesRack Q store (ys ++ drop (R.slots * v.width) store) (Ok R)) same
    (pass None, refl, is, zeroed_kept R _ _ (ap rack_fits (sym here.rack) ∙ v.fits) is)
  where
    long : R.slots * v.width ≡ store_bytes R
    long = ap (λ (n : ℕ). R.slots * n) (v.is ∙ ap slot_bytes here.rack)

    room : R.slots * v.width ≤ length store
    room =
        subst (λ (Q : Rack). Q.slots * v.width ≤ length store) here.rack
        (subst (λ (xs : List ℕ). v.rack.slots * v.width ≤ length xs) here.store_is v.room)

    is : ys ++ drop (R.slots * v.width) store ≡ replicate (store_bytes R) 0 ++ drop (store_bytes R) store
    is = ap₂ (λ (a b : List ℕ). a ++ b) (e ∙ ap (λ (n : ℕ). replicate n 0) (length-take-le (R.slots * v.width) store room ∙ long)) (ap (λ (n : ℕ). drop n store) long)

-- the shape that is made, by its numbers
pub shape_made : (F I K : ℕ) (s : Shape) → Some s ≡ cond (limits F I K) (Some (record { leaves = F; inners = I; tracks = K })) None
    → s ≡ record { leaves = F; inners = I; tracks = K }
shape_made F I K s = go (limits F I K)
  where
    go : (b : Bool) → Some s ≡ cond b (Some (record { leaves = F; inners = I; tracks = K })) None → s ≡ record { leaves = F; inners = I; tracks = K }
    go true e = cc
    go false e = cc

pub rack_made : (s s' : Shape) (N S : ℕ) → s ≡ s' → ◌≡◌ {A = Rack} (record { shape = s; most = N; slots = S }) (record { shape = s'; most = N; slots = S })
rack_made s s' N S e = λ i. record { shape = e i; most = N; slots = S }
