-- Two lists are the same exactly if the logged rules hold of the same trees.
use Rattle.std.proofs.Common.{◌≡◌, ℕ, Bool, true, false, T, ◌↔◌, List, Some, sym, refl, ap, ◌∙◌, subst}
use Rattle.trees.specs.declared.shape.Shape.{Shape}
use Rattle.trees.specs.Trees.{Tree, Shaped}
use Rattle.automata.specs.Automata.{Automaton, accepts}
use Rattle.automata.specs.Rules.{Rule, Holds}
use Rattle.tables.specs.Images.{fits}
use Rattle.tables.specs.Canonical.{slot_text}
use Rattle.tables.proofs.Slots.{slots_told}
use Rattle.racks.specs.declared.rack.Rack.{Rack}
use Rattle.racks.specs.Racks.{slot, is_taken}
use Rattle.racks.specs.Calls.{call_list, listed, Effect}
use Rattle.racks.specs.Log.{Log, logged, KeptIn}
use Rattle.racks.specs.Guarantee.{HoldSame, ListsRight}
use Rattle.racks.proofs.Passes.{Limits, list_passed}
use Rattle.racks.proofs.Holdings.{Holding, held_fits}
use Rattle.racks.proofs.Invariants.{limits_in, rule_of}
use Rattle.racks.proofs.Runs.{invariant}

-- two tests that hold together are one
same_tests : (a b : Bool) → T a ↔ T b → a ≡ b
same_tests true true h = refl
same_tests true false h = elim (h.0 tt) [ ]
same_tests false true h = elim (h.1 tt) [ ]
same_tests false false h = refl

module _ (R R' : Rack) (lim : Limits R) (lim' : Limits R') (e : R.shape ≡ R'.shape) (r r' : Rule) (bs cs : List ℕ)
    (h : Holding R r bs) (h' : Holding R' r' cs) where
  abbrev M : Automaton
  M = h.automaton

  abbrev M' : Automaton
  M' = h'.automaton

  -- of one shape, the texts tell what the automata accept
  texts_accept : (slot_text R.shape R.most bs ≡ slot_text R.shape R'.most cs) ↔ ((t : Tree) → Shaped R.shape t → accepts M t ≡ accepts M' t)
  texts_accept =
      let there : fits M.shape R'.most ≡ true = subst (λ (sh : Shape). fits sh R'.most ≡ true) (sym (h.shape ∙ e)) lim'.fitting in
      subst (λ (sh : Shape). (slot_text sh R.most bs ≡ slot_text sh R'.most cs) ↔ ((t : Tree) → Shaped sh t → accepts M t ≡ accepts M' t)) h.shape
      (slots_told M M' R.most R'.most h.states h'.states bs cs (h.shape ∙ (e ∙ sym h'.shape)) (held_fits R lim r bs h) there h.held h'.held)

  right' : (t : Tree) → Shaped R.shape t → T (accepts M' t) ↔ Holds r' t
  right' = subst (λ (sh : Shape). (t : Tree) → Shaped sh t → T (accepts M' t) ↔ Holds r' t) (sym e) h'.right

  rules_same : ((t : Tree) → Shaped R.shape t → accepts M t ≡ accepts M' t) ↔ HoldSame R.shape r r'
  rules_same = (
    (λ f t s. ((λ z. (right' t s).0 (subst T (f t s) ((h.right t s).1 z))), λ z. (h.right t s).0 (subst T (sym (f t s)) ((right' t s).1 z)))),
    λ f t s. same_tests (accepts M t) (accepts M' t)
        ((λ z. (right' t s).1 ((f t s).0 ((h.right t s).0 z))), λ z. (h.right t s).1 ((f t s).1 ((right' t s).0 z))),
  )

  pub texts_told : (text text' : List ℕ) → text ≡ slot_text R.shape R.most bs → text' ≡ slot_text R'.shape R'.most cs
      → (text ≡ text') ↔ HoldSame R.shape r r'
  texts_told text text' p q =
      let q' : text' ≡ slot_text R.shape R'.most cs = q ∙ ap (λ (sh : Shape). slot_text sh R'.most cs) (sym e) in
      ((λ z. rules_same.0 (texts_accept.0 (sym p ∙ (z ∙ q')))), λ z. p ∙ (texts_accept.1 (rules_same.1 z) ∙ sym q'))

-- the rule of a slot that was listed
listed_rule : (R : Rack) (log : Log) (store : List ℕ) (k room : ℕ) (text : List ℕ) → KeptIn R log store → Effect R store (call_list k room) (listed text)
    → (r : Rule) × (logged log k ≡ Some r) × Holding R r (slot R store k)
listed_rule R log store k room text kept f =
    let p = list_passed R store (is_taken R store) k room f.0 in
    rule_of R (logged log) store (invariant R log store kept) k p.0 p.1

limits_kept : (R : Rack) (log : Log) (store : List ℕ) → KeptIn R log store → Limits R
limits_kept R log store kept = limits_in R (logged log) store (invariant R log store kept)

pub lists : (R : Rack) (log : Log) (store : List ℕ) (k room : ℕ) (text : List ℕ) → KeptIn R log store → Effect R store (call_list k room) (listed text)
    → ListsRight R log k text
lists R log store k room text kept f =
    let s = listed_rule R log store k room text kept f in (
      s.0,
      s.1,
      λ R' log' store' k' room' text' e kept' f'.
          let u = listed_rule R' log' store' k' room' text' kept' f' in (
            u.0,
            u.1,
            texts_told R R' (limits_kept R log store kept) (limits_kept R' log' store' kept') e s.0 u.0 (slot R store k) (slot R' store' k') s.2 u.2
                text text' f.1 f'.1,
          ),
    )
