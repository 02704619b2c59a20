-- Projection: lawful, its step's law, and what it accepts.
use Rattle.std.proofs.Common.{◌≡◌, ℕ, ◌^◌, ◌<◌, ◌≤◌, Bool, true, false, ◌&&◌, T, eqb, ◌⊎◌, ◌↔◌, sym, refl, ◌∙◌, subst, ap₂, inl, inr, arith, eqb→eq, pow_pos, pow_mono}
use native.Mathlib.Decide.{dec_lt}
use lib.Dec.{eqb_refl}
use Rattle.trees.specs.Shapes.{LeafLabel, InnerLabel, Marks}
use Rattle.trees.specs.Trees.{Tree, leaf, inner, Shaped}
use Rattle.trees.specs.Nodes.{root, left, right, Nodes, bit, put_bit, put}
use Rattle.automata.specs.Automata.{Automaton, Lawful, code, accepts}
use Rattle.automata.specs.Layers.{sum_of, any, given, some_layer}
use Rattle.automata.proofs.Tests.{and_iff, or_iff}
use Rattle.automata.proofs.Guards.{guard_leaf, guard_inner, guard_final, guarded_lawful}
use Rattle.automata.proofs.Codes.{code_lt}
use Rattle.trees.proofs.Bits.{bit_none}
use Rattle.automata.proofs.CodeSets.{sum_lt, bit_sum, any_in, any_of}

-- k is given exactly if some value of the track steps to it
given_in : (i : ℕ) (step : ℕ → ℕ) (m : ℕ) (b : Bool) → T (given i step m (step (put_bit i b m)))
given_in i step m false = (or_iff (eqb _ (step (put_bit i false m))) _).1 (inl (eqb_refl _))
given_in i step m true = (or_iff (eqb _ (step (put_bit i false m))) _).1 (inr (eqb_refl _))

given_of : (i : ℕ) (step : ℕ → ℕ) (m k : ℕ) → T (given i step m k) → (b : Bool) × (step (put_bit i b m) ≡ k)
given_of i step m k h = go ((or_iff (eqb k (step (put_bit i false m))) _).0 h)
  where
    go : T (eqb k (step (put_bit i false m))) ⊎ T (eqb k (step (put_bit i true m))) → (b : Bool) × (step (put_bit i b m) ≡ k)
    go (inl e) = (false, sym (eqb→eq k _ e))
    go (inr e) = (true, sym (eqb→eq k _ e))

-- the set of nodes that is b at the root, L in the left part and R in the right
abbrev joined : (a m : ℕ) (l r : Tree) → Bool → Nodes l → Nodes r → Nodes (inner a m l r)
joined a m l r b L R root = b
joined a m l r b L R (left p) = L p
joined a m l r b L R (right p) = R p

module _ (i : ℕ) (M : Automaton) where
  abbrev LeafSet : ℕ → ℕ → ℕ → Bool
  LeafSet a m = given i (M.leaf_step a) m

  abbrev InnerSet : ℕ → ℕ → ℕ → ℕ → ℕ → Bool
  InnerSet a m X Y k = any M.count (λ x. bit x X && any M.count (λ y. bit y Y && given i (λ n. M.inner_step a n x y) m k))

  pub some_lawful : Lawful M → M.count ≤ 32 → Lawful (some_layer i M)
  some_lawful ok small =
      guarded_lawful M.shape (2 ^ M.count) _ _ _ (pow_pos M.count) (pow_mono small)
      (λ a m h k. sum_lt (LeafSet a m) M.count) (λ a m X Y h k p q. sum_lt (InnerSet a m X Y) M.count)

  some_leaf : (a m : ℕ) → LeafLabel M.shape a → Marks M.shape m → (some_layer i M).leaf_step a m ≡ sum_of (LeafSet a m) M.count
  some_leaf a m h k = guard_leaf M.shape a m _ h k

  some_inner : (a m X Y : ℕ) → InnerLabel M.shape a → Marks M.shape m → X < 2 ^ M.count → Y < 2 ^ M.count
      → (some_layer i M).inner_step a m X Y ≡ sum_of (InnerSet a m X Y) M.count
  some_inner a m X Y h k p q =
      guard_inner M.shape (2 ^ M.count) a m X Y _ h k p q

  -- a member of a set of codes is below the count
  member_lt : (X : ℕ) → X < 2 ^ M.count → (k : ℕ) → T (bit k X) → k < M.count
  member_lt X l k z = go (dec_lt k M.count)
    where
      go : Dec (k < M.count) → k < M.count
      go (yes h) = h
      go (no n) = absurd (subst T (bit_none k M.count X (omega arith) l) z)

  -- members x and y and some value of the track step to k
  abbrev pub Collected : ℕ → ℕ → ℕ → ℕ → ℕ → Type 0
  Collected a m X Y k = (x : ℕ) × (y : ℕ) × (b : Bool) × T (bit x X) × T (bit y Y) × (M.inner_step a (put_bit i b m) x y ≡ k)

  module _ (ok : Lawful M) where
    pub some_leaf_step : (a m k : ℕ) → LeafLabel M.shape a → Marks M.shape m
        → T (bit k ((some_layer i M).leaf_step a m)) ↔ ((b : Bool) × (M.leaf_step a (put_bit i b m) ≡ k))
    some_leaf_step a m k h l = (to, from)
      where
        e : (some_layer i M).leaf_step a m ≡ sum_of (LeafSet a m) M.count
        e = some_leaf a m h l

        to : T (bit k ((some_layer i M).leaf_step a m)) → (b : Bool) × (M.leaf_step a (put_bit i b m) ≡ k)
        to z =
            let y : T (bit k (sum_of (LeafSet a m) M.count)) = subst (λ (s : ℕ). T (bit k s)) e z in
            given_of i (M.leaf_step a) m k (subst T (bit_sum (LeafSet a m) M.count k (member_lt _ (sum_lt (LeafSet a m) M.count) k y)) y)

        from : (b : Bool) × (M.leaf_step a (put_bit i b m) ≡ k) → T (bit k ((some_layer i M).leaf_step a m))
        from (b, p) =
            let c : k < M.count = subst (λ (n : ℕ). n < M.count) p (ok.leaf_in a (put_bit i b m)) in
            subst (λ (s : ℕ). T (bit k s)) (sym e)
            (subst T (sym (bit_sum (LeafSet a m) M.count k c)) (subst (λ (n : ℕ). T (given i (M.leaf_step a) m n)) p (given_in i (M.leaf_step a) m b)))

    pub some_inner_step : (a m X Y k : ℕ) → InnerLabel M.shape a → Marks M.shape m → X < 2 ^ M.count → Y < 2 ^ M.count
        → T (bit k ((some_layer i M).inner_step a m X Y)) ↔ Collected a m X Y k
    some_inner_step a m X Y k h l p q = (to, from)
      where
        e : (some_layer i M).inner_step a m X Y ≡ sum_of (InnerSet a m X Y) M.count
        e = some_inner a m X Y h l p q

        to : T (bit k ((some_layer i M).inner_step a m X Y)) → Collected a m X Y k
        to z =
            let z' : T (bit k (sum_of (InnerSet a m X Y) M.count)) = subst (λ (s : ℕ). T (bit k s)) e z in
            let u = any_of M.count _ (subst T (bit_sum (InnerSet a m X Y) M.count k (member_lt _ (sum_lt (InnerSet a m X Y) M.count) k z')) z') in
            let ux = (and_iff (bit u.0 X) _).0 u.2 in
            let v = any_of M.count _ ux.1 in
            let vy = (and_iff (bit v.0 Y) _).0 v.2 in
            let w = given_of i (λ n. M.inner_step a n u.0 v.0) m k vy.1 in
            (u.0, v.0, w.0, ux.0, vy.0, w.1)

        from : Collected a m X Y k → T (bit k ((some_layer i M).inner_step a m X Y))
        from (x, y, b, hx, hy, d) =
            let c : k < M.count = subst (λ (n : ℕ). n < M.count) d (ok.inner_in a (put_bit i b m) x y) in
            let g : T (given i (λ n. M.inner_step a n x y) m k)
            = subst (λ (n : ℕ). T (given i (λ n. M.inner_step a n x y) m n)) d (given_in i (λ n. M.inner_step a n x y) m b) in
            subst (λ (s : ℕ). T (bit k s)) (sym e)
            (subst T (sym (bit_sum (InnerSet a m X Y) M.count k c))
            (any_in M.count _ x (member_lt X p x hx)
            ((and_iff (bit x X) _).1 (hx, any_in M.count _ y (member_lt Y q y hy) ((and_iff (bit y Y) _).1 (hy, g))))))

    some_code_lt : (t : Tree) → Shaped M.shape t → code (some_layer i M) t < 2 ^ M.count
    some_code_lt (leaf a m) h = rw (some_leaf a m h.0 h.1) (sum_lt (LeafSet a m) M.count)
    some_code_lt (inner a m l r) h =
        rw (some_inner a m (code (some_layer i M) l) (code (some_layer i M) r) h.0 h.1 (some_code_lt l h.2) (some_code_lt r h.3))
        (sum_lt _ M.count)

    -- the members of a tree's code are the codes that the sets in the track give
    member_of : (t : Tree) → Shaped M.shape t → (S : Nodes t) → T (bit (code M (put i t S)) (code (some_layer i M) t))
    member_of (leaf a m) h S = (some_leaf_step a m _ h.0 h.1).1 (S root, refl)
    member_of (inner a m l r) h S =
        (some_inner_step a m _ _ _ h.0 h.1 (some_code_lt l h.2) (some_code_lt r h.3)).1
        (_, _, S root, member_of l h.2 (λ p. S (left p)), member_of r h.3 (λ p. S (right p)), refl)

    set_of : (t : Tree) → Shaped M.shape t → (k : ℕ) → T (bit k (code (some_layer i M) t)) → (S : Nodes t) × (code M (put i t S) ≡ k)
    set_of (leaf a m) h k z = let w = (some_leaf_step a m k h.0 h.1).0 z in ((λ p. w.0), w.1)
    set_of (inner a m l r) h k z =
        let w = (some_inner_step a m _ _ k h.0 h.1 (some_code_lt l h.2) (some_code_lt r h.3)).0 z in
        let L = set_of l h.2 w.0 w.3 in
        let R = set_of r h.3 w.1 w.4 in
        (joined a m l r w.2 L.0 R.0, ap₂ (M.inner_step a (put_bit i w.2 m)) L.1 R.1 ∙ w.5)

    some_final : (X : ℕ) → X < 2 ^ M.count → (some_layer i M).final X ≡ any M.count (λ x. bit x X && M.final x)
    some_final X h = guard_final (2 ^ M.count) X _ h

    pub some_accepts : (t : Tree) → Shaped M.shape t → T (accepts (some_layer i M) t) ↔ ((S : Nodes t) × T (accepts M (put i t S)))
    some_accepts t h = (to, from)
      where
        to : T (accepts (some_layer i M) t) → (S : Nodes t) × T (accepts M (put i t S))
        to z =
            let u = any_of M.count _ (subst T (some_final (code (some_layer i M) t) (some_code_lt t h)) z) in
            let w = (and_iff (bit u.0 (code (some_layer i M) t)) _).0 u.2 in
            let g = set_of t h u.0 w.0 in
            (g.0, subst (λ (c : ℕ). T (M.final c)) (sym g.1) w.1)

        from : (S : Nodes t) × T (accepts M (put i t S)) → T (accepts (some_layer i M) t)
        from (S, z) =
            subst T (sym (some_final (code (some_layer i M) t) (some_code_lt t h)))
            (any_in M.count _ (code M (put i t S)) (code_lt M ok (put i t S))
            ((and_iff (bit (code M (put i t S)) (code (some_layer i M) t)) _).1 (member_of t h S, z)))
