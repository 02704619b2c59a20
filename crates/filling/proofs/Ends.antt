-- The ends of a call that fills a slot.
use Rattle.std.proofs.Common.{◌≡◌, ℕ, ◌+◌, Bool, List, ◌++◌, take, drop, IsErrAnd, None, Ok, Err, Result, sym, refl, ◌∙◌, subst, ap₂, inl, inr, arith}
use Rattle.trees.specs.declared.refusal.Refusal.{Refusal}
use Rattle.automata.specs.Automata.{Automaton}
use Rattle.automata.specs.Rules.{Atom}
use Rattle.automata.specs.Atoms.{atom_automaton}
use Rattle.automata.specs.Layers.{pair_layer}
use Rattle.tables.specs.Tables.{TooMany}
use Rattle.tables.specs.Canonical.{TableIn}
use Rattle.atoms.specs.Making.{atom_refusal}
use Rattle.racks.specs.declared.rack.Rack.{Rack}
use Rattle.racks.specs.Racks.{slot_bytes, put_slot, slot_machine}
use Rattle.racks.specs.Calls.{Lent, Call, Write, refused, filled, due, write, table, check_lent, Crowded, Written, Effect}
use Rattle.racks.specs.Promises.{filled_by, Done}
use Rattle.racks.proofs.Dones.{done}
use Rattle.store.specs.declared.slot.Slots.{Slots}
use Rattle.store.specs.declared.slot.Slot.{Slot}
use Rattle.store.specs.declared.slot.Place.{Place}
use Rattle.store.specs.Checks.{IsSlots, IsSlot, put_place}
use Rattle.store.proofs.Exits.{handed_on}
use Rattle.store.proofs.Moving.{moved}
use Rattle.filling.specs.Fillings.{Makes, MakesAtom, Fills}

-- the build of the table that the call writes
at_slot : (s : Slot) (c : Call) (M M' : Automaton) → M' ≡ M → (l : Lent) (cells : List ℕ) (r : Result Place Refusal)
    → write s.slots.rack s.slots.store.now c ≡ table s.number M → due s.slots.rack s.slots.store.now c ≡ check_lent s.slots.rack l → Makes s M' l cells r
    → Fills s.slots.rack s.slots.store.now s.number c cells r
at_slot s c M M' is l cells (Ok p) w d m = (
  m.1.start,
  m.1.width,
  m.1.room,
  omega (arith, m.1.width, m.2.room),
  (
    d ∙ m.0,
    subst (λ (x : Write). Written s.slots.rack s.slots.store.now x (put_slot s.slots.rack s.number (take (slot_bytes s.slots.rack) cells) s.slots.store.now)) (sym w)
        (record {
          few = subst (λ (a : Automaton). ¬ TooMany a s.slots.rack.most) is m.2.few;
          states = m.2.states;
          bytes = take (slot_bytes s.slots.rack) cells;
          held = subst (λ (a : Automaton). TableIn a s.slots.rack.most m.2.states (take (slot_bytes s.slots.rack) cells)) is m.2.held;
          is = refl;
        }),
  ),
)
at_slot s c M M' is l cells (Err e) w d (inl x) = inl (d ∙ x)
at_slot s c M M' is l cells (Err e) w d (inr x) =
    inr (d ∙ x.0, x.1, subst (Crowded s.slots.rack) (sym w) (subst (λ (a : Automaton). TooMany a s.slots.rack.most) is x.2))

-- the build of an atom's table
pub atom_made : (s : Slot) (A : Atom) (M : Automaton) → M ≡ atom_automaton s.slots.rack.shape A → atom_refusal s.slots.rack.shape A ≡ None → (l : Lent) (cells : List ℕ)
    (r : Result Place Refusal) → Makes s M l cells r → MakesAtom s A l cells r
atom_made s A M is free l cells (Ok p) m = (free, subst (λ (a : Automaton). Makes s a l cells (Ok p)) is m)
atom_made s A M is free l cells (Err e) m = inr (free, subst (λ (a : Automaton). Makes s a l cells (Err e)) is m)

-- a pair of these slots' automata
pub pair_at : {R : Rack} {store : List ℕ} {v : Slots} → IsSlots R store v → (op : Bool → Bool → Bool) (x y : ℕ) (M : Automaton)
    → M ≡ pair_layer op (slot_machine v.rack v.store.now x) (slot_machine v.rack v.store.now y) → M ≡ pair_layer op (slot_machine R store x) (slot_machine R store y)
pair_at here op x y M e = e ∙ ap₂ (λ (R : Rack) (xs : List ℕ). pair_layer op (slot_machine R xs x) (slot_machine R xs y)) here.rack here.store_is

-- the build for the result slot
pub fills : {R : Rack} {store : List ℕ} {k : ℕ} {s : Slot} → IsSlot R store k s → (c : Call) (M M' : Automaton) → M' ≡ M → (l : Lent) (cells : List ℕ)
    (r : Result Place Refusal) → write R store c ≡ table k M → due R store c ≡ check_lent R l → Makes s M' l cells r → Fills R store k c cells r
fills {R} {store} {k} {s} here c M M' is l cells r w d m =
    moved here (λ R xs n. write R xs c ≡ table n M → due R xs c ≡ check_lent R l → Fills R xs n c cells r) (λ w d. at_slot s c M M' is l cells r w d m) w d

module _ (R : Rack) (store : List ℕ) (k : ℕ) (c : Call) where
  -- a refusal that `?` hands on
  pub denied : (r : Result (Unit {0}) Refusal) (e : Refusal) → IsErrAnd r (λ y. y ≡ e) → Effect R store c (refused e) → Done R c store store (filled_by r store)
  denied r e by x = handed_on R store c (λ r. filled_by r store) (λ e. refl) r e by (done R c store store (refused e) x refl)

  -- the bytes are in their slot
  pub placed : (p : Place) (cells after : List ℕ) → Fills R store k c cells (Ok p) → after ≡ put_place p (take p.width cells) store → Done R c store after (filled after)
  placed p cells after f e = done R c store after (filled after) (subst (λ (xs : List ℕ). Effect R store c (filled xs)) (sym (e ∙ at)) f.4) refl
    where
      at : put_place p (take p.width cells) store ≡ put_slot R k (take (slot_bytes R) cells) store
      at = ap₂ (λ (n w : ℕ). take n store ++ (take w cells ++ drop (n + w) store)) f.0 f.1
