-- What a slot holds: zeros, or the table of an automaton that accepts exactly the trees of which the slot's rule holds.
use Rattle.std.proofs.Common.{◌≡◌, ℕ, ◌*◌, ◌<◌, Bool, true, T, ◌↔◌, List, length, get_or, drop, replicate, Some, None, Option, sym, ap, ◌∙◌, subst, add-zero, arith}
use lib.ListN.{get_or-replicate}
use Rattle.std.proofs.lemmas.List.{get_or-take, get_or-drop}
use Rattle.std.proofs.lemmas.Bool.{lt-ltb, le-ltb}
use Rattle.trees.specs.declared.shape.Shape.{Shape}
use Rattle.trees.specs.Shapes.{Limited}
use Rattle.trees.specs.Trees.{Tree, Shaped}
use Rattle.automata.specs.Automata.{Automaton, accepts}
use Rattle.automata.specs.Rules.{Rule, Holds}
use Rattle.tables.specs.Images.{width, fits}
use Rattle.tables.specs.Slots.{slot_automaton}
use Rattle.tables.specs.Canonical.{TableIn}
use Rattle.tables.proofs.TableStates.{some_state}
use Rattle.tables.proofs.Slots.{slot_accepts}
use Rattle.racks.specs.declared.rack.Rack.{Rack}
use Rattle.racks.specs.Racks.{slot_bytes, slot, is_taken}
use Rattle.racks.specs.Log.{is_rule}
use Rattle.racks.proofs.Passes.{Limits}

pub record Holding (R : Rack) (r : Rule) (bs : List ℕ) : Type 0 where
  pub automaton : Automaton
  pub states : ℕ
  pub shape : automaton.shape ≡ R.shape
  pub held : TableIn automaton R.most states bs
  pub right : (t : Tree) → Shaped R.shape t → T (accepts automaton t) ↔ Holds r t

abbrev pub SlotHolds : Rack → List ℕ → Option Rule → Type 0
SlotHolds R bs None = bs ≡ replicate (slot_bytes R) 0
SlotHolds R bs (Some r) = Holding R r bs

module _ (R : Rack) (lim : Limits R) where
  module _ (r : Rule) (bs : List ℕ) (h : Holding R r bs) where
    abbrev M : Automaton
    M = h.automaton

    pub held_fits : fits M.shape R.most ≡ true
    held_fits = subst (λ (sh : Shape). fits sh R.most ≡ true) (sym h.shape) lim.fitting

    pub held_long : length bs ≡ slot_bytes R
    held_long = h.held.image.long ∙ ap (λ (sh : Shape). width sh R.most) h.shape

    held_first : 0 < get_or bs 0 0
    held_first =
        let some = some_state M h.held.table h.held.right (subst Limited (sym h.shape) lim.shape) in
        omega (arith, some, h.held.image.states)

    pub held_accepts : (t : Tree) → Shaped R.shape t → accepts (slot_automaton R.shape R.most bs) t ≡ accepts M t
    held_accepts =
        subst (λ (sh : Shape). (t : Tree) → Shaped sh t → accepts (slot_automaton sh R.most bs) t ≡ accepts M t) h.shape
        (slot_accepts M R.most h.states bs held_fits h.held)

    -- the slot's own automaton accepts by the rule
    pub held_right : (t : Tree) → Shaped R.shape t → T (accepts (slot_automaton R.shape R.most bs) t) ↔ Holds r t
    held_right t s = subst (λ (b : Bool). T b ↔ Holds r t) (sym (held_accepts t s)) (h.right t s)

  pub slot_first : (store : List ℕ) (k : ℕ) → get_or store (k * slot_bytes R) 0 ≡ get_or (slot R store k) 0 0
  slot_first store k =
      let W = slot_bytes R in
      sym (get_or-take W (drop (k * W) store) 0 0 (omega arith) ∙ (get_or-drop (k * W) store 0 0 ∙ ap (λ (n : ℕ). get_or store n 0) (add-zero (k * W))))

  pub slot_taken : (store : List ℕ) (k : ℕ) (o : Option Rule) → SlotHolds R (slot R store k) o → is_taken R store k ≡ is_rule o
  slot_taken store k None e =
      le-ltb 0 (get_or store (k * slot_bytes R) 0)
      (let z : get_or (slot R store k) 0 0 ≡ 0 = ap (λ (bs : List ℕ). get_or bs 0 0) e ∙ get_or-replicate (slot_bytes R) 0 0 0 (omega arith) in omega (arith, slot_first store k))
  slot_taken store k (Some r) h = lt-ltb 0 (get_or store (k * slot_bytes R) 0) (omega (arith, slot_first store k, held_first r (slot R store k) h))
