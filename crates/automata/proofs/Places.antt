-- The places of questions: each question has one, and an earlier place comes before by pair, then label, then marks.
use Rattle.std.proofs.Common.{◌≡◌, ℕ, suc, ◌+◌, ◌-◌, ◌*◌, ◌/◌, ◌%◌, ◌^◌, ◌<◌, ◌≤◌, ◌⊎◌, sym, ap, ◌∙◌, ap₂, inl, inr, mul-le-mul_right, arith}
use lib.Arith.{digits_div, digits_mod, digits_lt}
use Rattle.std.proofs.lemmas.Bool.{cases_order}
use Rattle.trees.specs.declared.shape.Shape.{Shape}
use Rattle.trees.specs.Shapes.{LeafLabel, InnerLabel, Marks}
use Rattle.automata.specs.Numbering.{Question, at_leaf, at_inner, Over, place, pair_place}
use Rattle.automata.proofs.PairPlaces.{pair_place_inj}

-- numbers of two digits
pub digits_inj : (q r q' r' c : ℕ) → r < c → r' < c → q * c + r ≡ q' * c + r' → (q ≡ q') × (r ≡ r')
digits_inj q r q' r' c h k e =
    (sym (digits_div q h) ∙ (ap (λ (n : ℕ). n / c) e ∙ digits_div q' k), sym (digits_mod q h) ∙ (ap (λ (n : ℕ). n % c) e ∙ digits_mod q' k))

pub digits_order : (q r q' r' c : ℕ) → r' < c → q * c + r < q' * c + r' → (q < q') ⊎ ((q ≡ q') × (r < r'))
digits_order q r q' r' c k l = go (cases_order q q')
  where
    go : (q ≡ q') ⊎ ((q < q') ⊎ (q' < q)) → (q < q') ⊎ ((q ≡ q') × (r < r'))
    go (inl e) = inr (e, let z : q * c ≡ q' * c = ap (λ (n : ℕ). n * c) e in omega arith)
    go (inr (inl e)) = inl e
    go (inr (inr e)) = absurd (let z : suc q' * c ≤ q * c = mul-le-mul_right c e in omega arith)

module _ (sh : Shape) where
  -- the pair and label of an inner question as one number
  abbrev row : ℕ → ℕ → ℕ → ℕ
  row a x y = pair_place x y * sh.inners + (a - sh.leaves)

  pub leaf_before : (a m b k u v : ℕ) → LeafLabel sh a → Marks sh m → place sh (at_leaf a m) < place sh (at_inner b k u v)
  leaf_before a m b k u v h l = omega (arith, digits_lt h l)

  pub leaf_order : (a m b k : ℕ) → Marks sh k → place sh (at_leaf a m) < place sh (at_leaf b k) → (a < b) ⊎ ((a ≡ b) × (m < k))
  leaf_order a m b k h l = digits_order a m b k (2 ^ sh.tracks) h l

  pub inner_order : (a m x y b k u v : ℕ) → InnerLabel sh a → InnerLabel sh b → Marks sh k
      → place sh (at_inner a m x y) < place sh (at_inner b k u v)
      → (pair_place x y < pair_place u v) ⊎ ((pair_place x y ≡ pair_place u v) × ((a < b) ⊎ ((a ≡ b) × (m < k))))
  inner_order a m x y b k u v h j g l = go (digits_order (row a x y) m (row b u v) k (2 ^ sh.tracks) g (omega (arith, l)))
    where
      label_lt : (a - sh.leaves < b - sh.leaves) → a < b
      label_lt z = omega arith

      rows : (pair_place x y < pair_place u v) ⊎ ((pair_place x y ≡ pair_place u v) × (a - sh.leaves < b - sh.leaves))
          → (pair_place x y < pair_place u v) ⊎ ((pair_place x y ≡ pair_place u v) × ((a < b) ⊎ ((a ≡ b) × (m < k))))
      rows (inl z) = inl z
      rows (inr z) = inr (z.0, inl (label_lt z.1))

      go : (row a x y < row b u v) ⊎ ((row a x y ≡ row b u v) × (m < k))
          → (pair_place x y < pair_place u v) ⊎ ((pair_place x y ≡ pair_place u v) × ((a < b) ⊎ ((a ≡ b) × (m < k))))
      go (inl z) = rows (digits_order (pair_place x y) (a - sh.leaves) (pair_place u v) (b - sh.leaves) sh.inners (omega arith) z)
      go (inr z) =
          let d = digits_inj (pair_place x y) (a - sh.leaves) (pair_place u v) (b - sh.leaves) sh.inners (omega arith) (omega arith) z.0 in
          inr (d.0, inr (omega (arith, d.1), z.1))

  pub place_inj : (n : ℕ) (q q' : Question) → Over sh n q → Over sh n q' → place sh q ≡ place sh q' → q ≡ q'
  place_inj n (at_leaf a m) (at_leaf b k) h h' e = let d = digits_inj a m b k (2 ^ sh.tracks) h.1 h'.1 e in ap₂ at_leaf d.0 d.1
  place_inj n (at_leaf a m) (at_inner b k x y) h h' e = absurd (omega (arith, digits_lt h.0 h.1, e))
  place_inj n (at_inner a m x y) (at_leaf b k) h h' e = absurd (omega (arith, digits_lt h'.0 h'.1, e))
  place_inj n (at_inner a m x y) (at_inner b k u v) h h' e =
      let d = digits_inj (row a x y) m (row b u v) k (2 ^ sh.tracks) h.1 h'.1 (omega (arith, e)) in
      let c = digits_inj (pair_place x y) (a - sh.leaves) (pair_place u v) (b - sh.leaves) sh.inners (omega arith) (omega arith) d.0 in
      let w = pair_place_inj x y u v c.0 in
      let ea : a ≡ b = omega (arith, c.1) in
      cc (ea, d.1, w.0, w.1)
