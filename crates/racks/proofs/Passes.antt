-- What the checks of a call tell where none refuses it.
use Rattle.std.proofs.Common.{◌≡◌, ℕ, ◌<◌, ◌≤◌, Bool, true, false, not, ◌&&◌, eqb, ltb, leb, List, length, None, Option, refl, arith}
use Rattle.std.proofs.lemmas.Bool.{ltb-true, leb-true, le-leb, eqb-true, and_parts, and_from}
use Rattle.trees.specs.declared.shape.Shape.{Shape}
use Rattle.trees.specs.declared.refusal.Refusal.{Refusal}
use Rattle.trees.specs.Reading.{check}
use Rattle.trees.specs.Shapes.{limits, within, Limited}
use Rattle.automata.specs.Automata.{Automaton}
use Rattle.automata.specs.Rules.{Atom}
use Rattle.tables.specs.Images.{fits}
use Rattle.layers.specs.Product.{same_shape}
use Rattle.racks.specs.declared.rack.Rack.{Rack}
use Rattle.racks.specs.Racks.{rack_fits, store_bytes}
use Rattle.racks.specs.Calls.{Lent, call_atom, call_not, call_both, call_some, call_take, call_drop, call_judge, call_list, check_open, check_slot, due_by}

pub record Limits (R : Rack) : Type 0 where
  pub shape : Limited R.shape
  pub least : 4 ≤ R.most
  pub most : R.most ≤ 32
  pub slots : R.slots ≤ 16
  pub fitting : fits R.shape R.most ≡ true

pub limits_of : (R : Rack) → rack_fits R ≡ true → Limits R
limits_of R h =
    let p = and_parts (limits R.shape.leaves R.shape.inners R.shape.tracks) (within 4 32 R.most && within 1 16 R.slots) h in
    let q = and_parts (within 4 32 R.most) (within 1 16 R.slots) p.1 in
    let b = and_parts (leb 4 R.most) (leb R.most 32) q.0 in
    let low = leb-true 4 R.most b.0 in
    record {
      shape = p.0;
      least = low;
      most = leb-true R.most 32 b.1;
      slots = leb-true R.slots 16 (and_parts (leb 1 R.slots) (leb R.slots 16) q.1).1;
      fitting = and_from (limits R.shape.leaves R.shape.inners R.shape.tracks) (within 1 32 R.most) p.0
          (and_from (leb 1 R.most) (leb R.most 32) (le-leb 1 R.most (omega arith)) b.1);
    }

passed : (ok : Bool) (e : Refusal) (rest : Option Refusal) → check ok e rest ≡ None → (ok ≡ true) × (rest ≡ None)
passed true e rest h = (refl, h)
passed false e rest h = absurd (cc)

shapes_same : (a b : Shape) → same_shape a b ≡ true → a ≡ b
shapes_same a b h =
    let p = and_parts (eqb a.leaves b.leaves) (eqb a.inners b.inners && eqb a.tracks b.tracks) h in
    let q = and_parts (eqb a.inners b.inners) (eqb a.tracks b.tracks) p.1 in
    let leaves = eqb-true a.leaves b.leaves p.0 in
    let inners = eqb-true a.inners b.inners q.0 in
    let tracks = eqb-true a.tracks b.tracks q.1 in
    λ i. record { leaves = leaves i; inners = inners i; tracks = tracks i }

module _ (R : Rack) (store : List ℕ) where
  pub opened : (rest : Option Refusal) → check_open R store rest ≡ None → (rack_fits R ≡ true) × (store_bytes R ≤ length store) × (rest ≡ None)
  opened rest h =
      let p = passed (rack_fits R) _ _ h in
      let q = passed (leb (store_bytes R) (length store)) _ _ p.1 in
      (p.0, leb-true (store_bytes R) (length store) q.0, q.1)

  slot_passed : (k : ℕ) (rest : Option Refusal) → check_slot R k rest ≡ None → (k < R.slots) × (rest ≡ None)
  slot_passed k rest h = let p = passed (ltb k R.slots) _ _ h in (ltb-true k R.slots p.0, p.1)

  module _ (taken : ℕ → Bool) where
    pub atom_passed : (k : ℕ) (A : Atom) (l : Lent) → due_by taken R store (call_atom k A l) ≡ None → k < R.slots
    atom_passed k A l h = (slot_passed k _ (opened _ h).2).0

    pub not_passed : (k x : ℕ) (l : Lent) → due_by taken R store (call_not k x l) ≡ None → (k < R.slots) × (x < R.slots) × (taken x ≡ true)
    not_passed k x l h =
        let p = slot_passed k _ (opened _ h).2 in
        let q = slot_passed x _ p.1 in
        let free = passed (not (taken k)) _ _ q.1 in
        (p.0, q.0, (passed (taken x) _ _ free.1).0)

    -- Either has the same checks
    pub both_passed : (k x y : ℕ) (l : Lent) → due_by taken R store (call_both k x y l) ≡ None
        → (k < R.slots) × (x < R.slots) × (y < R.slots) × (taken x ≡ true) × (taken y ≡ true)
    both_passed k x y l h =
        let p = slot_passed k _ (opened _ h).2 in
        let q = slot_passed x _ p.1 in
        let r = slot_passed y _ q.1 in
        let free = passed (not (taken k)) _ _ r.1 in
        let left = passed (taken x) _ _ free.1 in
        (p.0, q.0, r.0, left.0, (passed (taken y) _ _ left.1).0)

    pub some_passed : (k x i : ℕ) (l : Lent) → due_by taken R store (call_some k x i l) ≡ None
        → (k < R.slots) × (x < R.slots) × (taken x ≡ true) × (i < R.shape.tracks)
    some_passed k x i l h =
        let p = slot_passed k _ (opened _ h).2 in
        let q = slot_passed x _ p.1 in
        let free = passed (not (taken k)) _ _ q.1 in
        let full = passed (taken x) _ _ free.1 in
        (p.0, q.0, full.0, ltb-true i R.shape.tracks (passed (ltb i R.shape.tracks) _ _ full.1).0)

    pub take_passed : (k : ℕ) (M : Automaton) (l : Lent) → due_by taken R store (call_take k M l) ≡ None → (k < R.slots) × (M.shape ≡ R.shape)
    take_passed k M l h =
        let p = slot_passed k _ (opened _ h).2 in
        let free = passed (not (taken k)) _ _ p.1 in
        (p.0, shapes_same M.shape R.shape (passed (same_shape M.shape R.shape) _ _ free.1).0)

    pub drop_passed : (k : ℕ) → due_by taken R store (call_drop k) ≡ None → (k < R.slots) × (taken k ≡ true)
    drop_passed k h = let p = slot_passed k _ (opened _ h).2 in (p.0, (passed (taken k) _ _ p.1).0)

    pub judge_passed : (k : ℕ) (bs : List ℕ) (places : ℕ) → due_by taken R store (call_judge k bs places) ≡ None → (k < R.slots) × (taken k ≡ true)
    judge_passed k bs places h = let p = slot_passed k _ (opened _ h).2 in (p.0, (passed (taken k) _ _ p.1).0)

    pub list_passed : (k room : ℕ) → due_by taken R store (call_list k room) ≡ None → (k < R.slots) × (taken k ≡ true)
    list_passed k room h = let p = slot_passed k _ (opened _ h).2 in (p.0, (passed (taken k) _ _ p.1).0)
