-- What a layer accepts that was made.
use Rattle.std.proofs.Common.{◌≡◌, ℕ, ◌<◌, ◌≤◌, Bool, true, T, ltb, leb, ◌↔◌, None, sym, ap, ◌∙◌, subst, arith}
use Rattle.std.proofs.lemmas.Bool.{ltb-true, lt-ltb, and_from}
use Rattle.trees.specs.Nodes.{Nodes, put}
use Rattle.trees.specs.Shapes.{Limited}
use Rattle.trees.proofs.Limits.{bounds}
use Rattle.trees.proofs.Turns.{passed}
use Rattle.automata.specs.Automata.{Automaton, Lawful, accepts}
use Rattle.automata.specs.Layers.{some_layer}
use Rattle.automata.proofs.Products.{pair_accepts}
use Rattle.automata.proofs.Projections.{some_accepts}
use Rattle.layers.specs.Fitted.{fitted_is}
use Rattle.layers.specs.Product.{MadePair, MadeJoined}
use Rattle.layers.specs.Projection.{some_fits, some_refusal, some_meaning, MadeSome}

pub made_joined : (op : Bool → Bool → Bool) (joins : Type 0 → Type 0 → Type 0) → ((a b : Bool) → T (op a b) ↔ joins (T a) (T b))
    → (A B : Automaton) → Lawful A → Lawful B → (N : Automaton) → MadePair op A B N → MadeJoined op joins A B N
made_joined op joins joined A B okA okB N made = record {
  due = made.due;
  layer = made.layer;
  accepted = λ t h.
      let e : accepts N t ≡ op (accepts A t) (accepts B t) = ap (λ (L : Automaton). accepts L t) made.layer ∙ pair_accepts op A B okA okB t h in
      subst (λ (b : Bool). T b ↔ joins (T (accepts A t)) (T (accepts B t))) (sym e) (joined (accepts A t) (accepts B t));
}

module _ (i : ℕ) (M : Automaton) (ok : Lawful M) (none : some_refusal i M ≡ None) where
  fits : Limited M.shape → some_fits i M ≡ true
  fits limited =
      let p = passed (ltb i M.shape.tracks) _ _ none in
      let q = passed (leb M.count 32) _ _ p.1 in
      let below : i < M.shape.tracks = ltb-true i M.shape.tracks p.0 in
      let few : M.shape.tracks ≤ 6 = (bounds M.shape limited).tracks.1 in
      and_from (leb M.count 32) (ltb i 8) q.0 (lt-ltb i 8 (omega arith))

  is_layer : Limited M.shape → some_meaning i M ≡ some_layer i M
  is_layer limited = fitted_is (some_fits i M) (some_layer i M) (fits limited)

  pub made_some : MadeSome i M (some_meaning i M)
  made_some = record {
    due = none;
    layer = is_layer;
    accepted = λ limited t h.
        subst (λ (L : Automaton). T (accepts L t) ↔ ((S : Nodes t) × T (accepts M (put i t S)))) (sym (is_layer limited)) (some_accepts i M ok t h);
  }
