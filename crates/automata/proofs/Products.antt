-- Complement and product: lawful, and what they accept.
use Rattle.std.proofs.Common.{◌≡◌, ℕ, ◌+◌, ◌*◌, ◌/◌, ◌%◌, ◌^◌, ◌<◌, ◌≤◌, Bool, not, ◌&&◌, ◌||◌, T, ◌⊎◌, ◌↔◌, sym, refl, ap, ◌∙◌, subst, ap₂, mul-le-mul, arith}
use lib.Arith.{digits_lt, digits_div, digits_mod}
use Rattle.trees.specs.Shapes.{InnerLabel, Marks}
use Rattle.trees.specs.Trees.{Tree, leaf, inner, Shaped}
use Rattle.automata.specs.Automata.{Automaton, Lawful, code, accepts}
use Rattle.automata.specs.Layers.{not_layer, pair_layer}
use Rattle.automata.proofs.Tests.{not_iff, and_iff, or_iff}
use Rattle.automata.proofs.Guards.{guard_leaf, guard_inner, guard_final, guarded_lawful}
use Rattle.automata.proofs.Codes.{code_lt}

module _ (M : Automaton) (ok : Lawful M) where
  pub not_lawful : Lawful (not_layer M)
  not_lawful = record {
    count_fits = ok.count_fits;
    leaf_in = ok.leaf_in;
    inner_in = ok.inner_in;
    leaf_out = ok.leaf_out;
    inner_out = ok.inner_out;
    final_out = λ x h. grind arith;
  }

  not_code : (t : Tree) → code (not_layer M) t ≡ code M t
  not_code (leaf a m) = refl
  not_code (inner a m l r) = ap₂ (M.inner_step a m) (not_code l) (not_code r)

  not_final : (x : ℕ) → x < M.count → (not_layer M).final x ≡ not (M.final x)
  not_final x h = grind arith

  pub not_accepts : (t : Tree) → T (accepts (not_layer M) t) ↔ (¬ T (accepts M t))
  not_accepts t =
      let e : accepts (not_layer M) t ≡ not (accepts M t) = ap (not_layer M).final (not_code t) ∙ not_final (code M t) (code_lt M ok t) in
      subst (λ (b : Bool). T b ↔ (¬ T (accepts M t))) (sym e) (not_iff (accepts M t))

module _ (op : Bool → Bool → Bool) (A B : Automaton) (okA : Lawful A) (okB : Lawful B) where
  pub pair_lawful : A.count * B.count ≤ 2 ^ 32 → Lawful (pair_layer op A B)
  pair_lawful fits =
      guarded_lawful A.shape (A.count * B.count) _ _ _ (mul-le-mul okA.count_fits.0 okB.count_fits.0) fits
      (λ a m h k. digits_lt (okA.leaf_in a m) (okB.leaf_in a m))
      (λ a m x y h k p q. digits_lt (okA.inner_in a m (x / B.count) (y / B.count)) (okB.inner_in a m (x % B.count) (y % B.count)))

  abbrev join : ℕ → ℕ → ℕ
  join x u = x * B.count + u

  pair_inner : (a m x y u v : ℕ) → InnerLabel A.shape a → Marks A.shape m → x < A.count → y < A.count → u < B.count → v < B.count
      → (pair_layer op A B).inner_step a m (join x u) (join y v) ≡ join (A.inner_step a m x y) (B.inner_step a m u v)
  pair_inner a m x y u v h k p q d e =
      guard_inner A.shape (A.count * B.count) a m (join x u) (join y v) _ h k (digits_lt p d) (digits_lt q e)
      ∙ simp (digits_div x d, digits_div y e, digits_mod x d, digits_mod y e)

  pair_code : (t : Tree) → Shaped A.shape t → code (pair_layer op A B) t ≡ join (code A t) (code B t)
  pair_code (leaf a m) h = guard_leaf A.shape a m _ h.0 h.1
  pair_code (inner a m l r) h =
      ap₂ ((pair_layer op A B).inner_step a m) (pair_code l h.2) (pair_code r h.3)
      ∙ pair_inner a m (code A l) (code A r) (code B l) (code B r) h.0 h.1
      (code_lt A okA l) (code_lt A okA r) (code_lt B okB l) (code_lt B okB r)

  pair_final : (x u : ℕ) → x < A.count → u < B.count → (pair_layer op A B).final (join x u) ≡ op (A.final x) (B.final u)
  pair_final x u h k = guard_final (A.count * B.count) (join x u) _ (digits_lt h k) ∙ simp (digits_div x k, digits_mod x k)

  pub pair_accepts : (t : Tree) → Shaped A.shape t → accepts (pair_layer op A B) t ≡ op (accepts A t) (accepts B t)
  pair_accepts t h = ap (pair_layer op A B).final (pair_code t h) ∙ pair_final (code A t) (code B t) (code_lt A okA t) (code_lt B okB t)

module _ (A B : Automaton) (okA : Lawful A) (okB : Lawful B) (t : Tree) (h : Shaped A.shape t) where
  pub both_accepts : T (accepts (pair_layer ◌&&◌ A B) t) ↔ (T (accepts A t) × T (accepts B t))
  both_accepts =
      subst (λ (b : Bool). T b ↔ (T (accepts A t) × T (accepts B t))) (sym (pair_accepts ◌&&◌ A B okA okB t h)) (and_iff (accepts A t) (accepts B t))

  pub either_accepts : T (accepts (pair_layer ◌||◌ A B) t) ↔ (T (accepts A t) ⊎ T (accepts B t))
  either_accepts =
      subst (λ (b : Bool). T b ↔ (T (accepts A t) ⊎ T (accepts B t))) (sym (pair_accepts ◌||◌ A B okA okB t h)) (or_iff (accepts A t) (accepts B t))
