-- Each call keeps what holds along a log.
use Rattle.std.proofs.Common.{◌≡◌, ℕ, ◌<◌, Bool, cond, ◌&&◌, ◌||◌, T, ◌⊎◌, ◌↔◌, List, replicate, Some, None, Option, sym, refl, subst, inl, inr}
use lib.ListN.{length-replicate}
use Rattle.trees.specs.declared.shape.Shape.{Shape}
use Rattle.trees.specs.Nodes.{Nodes, put}
use Rattle.trees.specs.Trees.{Tree, Shaped}
use Rattle.trees.proofs.Puts.{put_shaped}
use Rattle.automata.specs.Automata.{Automaton, Lawful, accepts}
use Rattle.automata.specs.Rules.{Rule, atom, neg, both, either, some_set, taken, Holds}
use Rattle.automata.specs.Atoms.{atom_automaton}
use Rattle.automata.specs.Layers.{not_layer, pair_layer, some_layer}
use Rattle.automata.proofs.AtomAutomata.{atom_accepts}
use Rattle.automata.proofs.Products.{not_accepts, both_accepts, either_accepts}
use Rattle.automata.proofs.Projections.{some_accepts}
use Rattle.tables.specs.SlotLaws.{slot_lawful}
use Rattle.racks.specs.declared.rack.Rack.{Rack}
use Rattle.racks.specs.Racks.{slot_bytes, slot, is_taken, slot_machine}
use Rattle.racks.specs.Calls.{Lent, Call, call_atom, call_not, call_both, call_either, call_some, call_take, call_drop, call_judge, call_list, Outcome, refused, filled, judged, listed, due, write, nothing, Placed, Written, Effect, store_after, answered_by}
use Rattle.racks.specs.Log.{give, one_rule, two_rules, rules_after}
use Rattle.racks.proofs.Passes.{Limits, atom_passed, not_passed, both_passed, some_passed, take_passed, drop_passed}
use Rattle.racks.proofs.Atoms.{atom_shape}
use Rattle.racks.proofs.Readings.{judge_writes, list_writes, no_rule_given}
use Rattle.racks.proofs.Holdings.{Holding, held_long, held_right}
use Rattle.racks.proofs.Invariants.{Invariant, limits_in, rule_of, wrote}

-- joined rules hold where the parts of what is accepted do
neg_iff : {A B : Type 0} → A ↔ B → (¬ A) ↔ (¬ B)
neg_iff h = ((λ n b. n (h.1 b)), λ n a. n (h.0 a))

both_iff : {A B C D : Type 0} → A ↔ B → C ↔ D → (A × C) ↔ (B × D)
both_iff h k = ((λ p. (h.0 p.0, k.0 p.1)), λ p. (h.1 p.0, k.1 p.1))

either_iff : {A B C D : Type 0} → A ↔ B → C ↔ D → (A ⊎ C) ↔ (B ⊎ D)
either_iff h k = (
  (λ s. elim s [ inl a ↦ inl (h.0 a) | inr c ↦ inr (k.0 c) ]),
  λ s. elim s [ inl b ↦ inl (h.1 b) | inr d ↦ inr (k.1 d) ],
)

chain_iff : {A B C : Type 0} → A ↔ B → B ↔ C → A ↔ C
chain_iff h k = ((λ a. k.0 (h.0 a)), λ c. h.1 (k.1 c))

module _ (R : Rack) (rules : ℕ → Option Rule) (store : List ℕ) (v : Invariant R rules store) where
  abbrev sh : Shape
  sh = R.shape

  abbrev source : ℕ → Automaton
  source x = slot_machine R store x

  lim : Limits R
  lim = limits_in R rules store v

  law : (x : ℕ) → Lawful (source x)
  law x = slot_lawful sh R.most (slot R store x)

  slot_right : (x : ℕ) (r : Rule) → Holding R r (slot R store x) → (t : Tree) → Shaped sh t → T (accepts (source x) t) ↔ Holds r t
  slot_right x r h = held_right R lim r (slot R store x) h

  -- slot k gets the table of an automaton of the rule
  placed : (k : ℕ) (M : Automaton) (r : Rule) (after : List ℕ) → k < R.slots → M.shape ≡ sh
      → ((t : Tree) → Shaped sh t → T (accepts M t) ↔ Holds r t) → Placed R store k M after → Invariant R (give k (Some r) rules) after
  placed k M r after h same right p =
      let holding : Holding R r p.bytes = record { automaton = M; states = p.states; shape = same; held = p.held; right = right } in
      subst (Invariant R (give k (Some r) rules)) (sym p.is)
      (wrote R rules store v k p.bytes (Some r) h (held_long R lim r p.bytes holding) holding)

  -- Both and Either, with the checks of Both
  pair_written : (op : Bool → Bool → Bool) (join : Rule → Rule → Rule)
      → ((x y : ℕ) (r q : Rule) → Holding R r (slot R store x) → Holding R q (slot R store y) → (t : Tree) → Shaped sh t
      → T (accepts (pair_layer op (source x) (source y)) t) ↔ Holds (join r q) t)
      → (k x y : ℕ) (l : Lent) (after : List ℕ) → due R store (call_both k x y l) ≡ None → Placed R store k (pair_layer op (source x) (source y)) after
      → Invariant R (give k (two_rules join (rules x) (rules y)) rules) after
  pair_written op join right k x y l after none w =
      let p = both_passed R store (is_taken R store) k x y l none in
      let s = rule_of R rules store v x p.1 p.3 in
      let u = rule_of R rules store v y p.2 p.4 in
      subst (λ (o : Option Rule). Invariant R (give k (two_rules join o (rules y)) rules) after) (sym s.1)
      (subst (λ (o : Option Rule). Invariant R (give k (two_rules join (Some s.0) o) rules) after) (sym u.1)
      (placed k (pair_layer op (source x) (source y)) (join s.0 u.0) after p.0 refl (right x y s.0 u.0 s.2 u.2) w))

  some_right : (i x : ℕ) (r : Rule) → i < sh.tracks → Holding R r (slot R store x) → (t : Tree) → Shaped sh t
      → T (accepts (some_layer i (source x)) t) ↔ ((S : Nodes t) × Holds r (put i t S))
  some_right i x r l h t s =
      let a = some_accepts i (source x) (law x) t s in
      let b : (S : Nodes t) → T (accepts (source x) (put i t S)) ↔ Holds r (put i t S) = λ S. slot_right x r h (put i t S) (put_shaped sh i l t s S) in
      ((λ z. let g = a.0 z in (g.0, (b g.0).0 g.1)), λ g. a.1 (g.0, (b g.0).1 g.1))

  wrote_slot : (c : Call) (after : List ℕ) → due R store c ≡ None → Written R store (write R store c) after → Invariant R (rules_after c rules) after
  wrote_slot (call_atom k A l) after none w =
      placed k (atom_automaton sh A) (atom A) after (atom_passed R store (is_taken R store) k A l none) (atom_shape sh A) (atom_accepts sh A) w
  wrote_slot (call_not k x l) after none w =
      let p = not_passed R store (is_taken R store) k x l none in
      let s = rule_of R rules store v x p.1 p.2 in
      subst (λ (o : Option Rule). Invariant R (give k (one_rule neg o) rules) after) (sym s.1)
      (placed k (not_layer (source x)) (neg s.0) after p.0 refl
      (λ t h. chain_iff (not_accepts (source x) (law x) t) (neg_iff (slot_right x s.0 s.2 t h))) w)
  wrote_slot (call_both k x y l) after none w =
      pair_written ◌&&◌ both
      (λ x y r q h g t s. chain_iff (both_accepts (source x) (source y) (law x) (law y) t s) (both_iff (slot_right x r h t s) (slot_right y q g t s)))
      k x y l after none w
  wrote_slot (call_either k x y l) after none w =
      pair_written ◌||◌ either
      (λ x y r q h g t s. chain_iff (either_accepts (source x) (source y) (law x) (law y) t s) (either_iff (slot_right x r h t s) (slot_right y q g t s)))
      k x y l after none w
  wrote_slot (call_some k x i l) after none w =
      let p = some_passed R store (is_taken R store) k x i l none in
      let s = rule_of R rules store v x p.1 p.2 in
      subst (λ (o : Option Rule). Invariant R (give k (one_rule (some_set i) o) rules) after) (sym s.1)
      (placed k (some_layer i (source x)) (some_set i s.0) after p.0 refl (some_right i x s.0 p.3 s.2) w)
  wrote_slot (call_take k M l) after none w =
      let p = take_passed R store (is_taken R store) k M l none in
      placed k M (taken M) after p.0 p.1 (λ t h. ((λ z. z), λ z. z)) w
  wrote_slot (call_drop k) after none w =
      let p = drop_passed R store (is_taken R store) k none in
      subst (Invariant R (give k None rules)) (sym w)
      (wrote R rules store v k (replicate (slot_bytes R) 0) None p.0 (length-replicate (slot_bytes R) 0) refl)
  wrote_slot (call_judge k bs places) after none w = elim w [ ]
  wrote_slot (call_list k room) after none w = elim w [ ]

  unwritten : (c : Call) → write R store c ≡ nothing → Invariant R (rules_after c rules) store
  unwritten c e = subst (λ (f : ℕ → Option Rule). Invariant R f store) (sym (no_rule_given R store rules c e)) v

  pub step : (c : Call) (o : Outcome) → Effect R store c o → Invariant R (cond (answered_by o) (rules_after c rules) rules) (store_after store o)
  step c (refused e) f = v
  step c (filled after) f = wrote_slot c after f.0 f.1
  step c (judged b) f = unwritten c (judge_writes R store c b f.1)
  step c (listed text) f = unwritten c (list_writes R store c text f.1)
