-- Merged classes are numbered as first met.
use Rattle.std.proofs.Common.{◌≡◌, ℕ, ◌<◌, ◌≤◌, ◌⊎◌, ap, ◌∙◌, ap₂, inl, inr, arith}
use Rattle.std.proofs.lemmas.Bool.{cases_lt, cases_order}
use Rattle.trees.specs.declared.shape.Shape.{Shape}
use Rattle.trees.specs.Shapes.{InnerLabel, Marks}
use Rattle.automata.specs.Automata.{Automaton, Alike}
use Rattle.automata.specs.Numbering.{Table, Question, at_leaf, at_inner, answer, Over, place, pair_place, FirstMet}
use Rattle.automata.proofs.PairPlaces.{pair_place_inj}
use Rattle.automata.proofs.Places.{leaf_before}
use Rattle.automata.proofs.PlaceOrder.{pair_down, pair_up, inner_up, inner_down}
use Rattle.tables.specs.Exploring.{Explored}
use Rattle.tables.specs.Merging.{Merged, merged_table}
use Rattle.tables.proofs.Founds.{cells_alike}

module _ (M : Automaton) (codes : ℕ → ℕ) (E : Table) (ex : Explored M codes E) (k : ℕ) (class first : ℕ → ℕ) (mg : Merged M codes E k class first) where
  abbrev sh : Shape
  sh = M.shape

  first_up : (s u : ℕ) → s < u → u < k → first s < first u
  first_up s u h l = pick (cases_order (first s) (first u))
    where
      pick : (first s ≡ first u) ⊎ ((first s < first u) ⊎ (first u < first s)) → first s < first u
      pick (inl e) =
          let z : class (first s) ≡ class (first u) = ap class e in
          absurd (omega (arith, z, mg.first_is s (omega arith), mg.first_is u l))
      pick (inr (inl e)) = e
      pick (inr (inr e)) = absurd (omega (arith, mg.before s (first u) (omega arith) e, mg.first_is u l))

  -- the first index of x's class
  abbrev rep : ℕ → ℕ
  rep x = first (class x)

  rep_in : (x : ℕ) → x < E.states → rep x < E.states
  rep_in x h = mg.first_in (class x) (mg.class_in x h)

  rep_down : (x : ℕ) → x < E.states → rep x ≤ x
  rep_down x h = pick (cases_lt x (rep x))
    where
      pick : (x < rep x) ⊎ (rep x ≤ x) → rep x ≤ x
      pick (inl e) = absurd (omega (arith, mg.before (class x) x (mg.class_in x h) e))
      pick (inr e) = e

  pub rep_alike : (x : ℕ) → x < E.states → Alike M (codes (rep x)) (codes x)
  rep_alike x h = (mg.classes (rep x) x (rep_in x h) h).0 (mg.first_is (class x) (mg.class_in x h))

  -- a class's first index stands for each of the class
  pub rep_step : (a m x y : ℕ) → InnerLabel sh a → Marks sh m → x < E.states → y < E.states
      → class (E.inner_cell a m (rep x) (rep y)) ≡ class (E.inner_cell a m x y)
  rep_step a m x y h l hx hy =
      (mg.classes (E.inner_cell a m (rep x) (rep y)) (E.inner_cell a m x y)
      (ex.inside (at_inner a m (rep x) (rep y)) (h, l, rep_in x hx, rep_in y hy)) (ex.inside (at_inner a m x y) (h, l, hx, hy))).1
      (cells_alike M codes E ex a m (rep x) (rep y) x y h l (rep_in x hx) (rep_in y hy) hx hy (rep_alike x hx) (rep_alike y hy))

  abbrev T : Table
  T = merged_table M codes E k class first

  -- a question over indices as one over their states
  abbrev merged : Question → Question
  merged (at_leaf a m) = at_leaf a m
  merged (at_inner a m x y) = at_inner a m (class x) (class y)

  met_over : (s : ℕ) → s < k → (q : Question) → Over sh (first s) q → Over sh s (merged q)
  met_over s h (at_leaf a m) o = o
  met_over s h (at_inner a m x y) o = (o.0, o.1, mg.before s x h o.2, mg.before s y h o.3)

  met_is : (i : ℕ) → i < E.states → (q : Question) → Over sh i q → answer E q ≡ i → answer T (merged q) ≡ class i
  met_is i h (at_leaf a m) o e = ap class e
  met_is i h (at_inner a m x y) o e = rep_step a m x y o.0 o.1 (omega arith) (omega arith) ∙ ap class e

  -- a question over states before merged q is, over their first indices, one before q
  met_first : (s : ℕ) → s < k → (q : Question) → Over sh (first s) q
      → ((q' : Question) → Over sh E.states q' → place sh q' < place sh q → answer E q' < first s)
      → (q' : Question) → Over sh k q' → place sh q' < place sh (merged q) → answer T q' < s
  met_first s h (at_leaf a m) o before (at_leaf b j) p l = mg.before s (E.leaf_cell b j) h (before (at_leaf b j) p l)
  met_first s h (at_leaf a m) o before (at_inner b j u v) p l = absurd (omega (arith, l, leaf_before sh a m b j u v o.0 o.1))
  met_first s h (at_inner a m x y) o before (at_leaf b j) p l =
      mg.before s (E.leaf_cell b j) h (before (at_leaf b j) p (leaf_before sh b j a m x y p.0 p.1))
  met_first s h (at_inner a m x y) o before (at_inner b j u v) p l =
      mg.before s (E.inner_cell b j (first u) (first v)) h
      (before (at_inner b j (first u) (first v)) (p.0, p.1, mg.first_in u p.2, mg.first_in v p.3) (omega (arith, far, near)))
    where
      in_E : first s < E.states
      in_E = mg.first_in s h

      cx : class x < s
      cx = mg.before s x h o.2

      cy : class y < s
      cy = mg.before s y h o.3

      far : place sh (at_inner b j (first u) (first v)) < place sh (at_inner a m (rep x) (rep y))
      far = inner_up sh k b j u v a m (class x) (class y) (first u) (first v) (rep x) (rep y)
          p (o.0, o.1, omega (arith, cx, h), omega (arith, cy, h))
          (pair_up first k first_up u v (class x) (class y) p.2 p.3 (omega (arith, cx, h)) (omega (arith, cy, h)))
          (λ e. let w = pair_place_inj u v (class x) (class y) e in ap₂ pair_place (ap first w.0) (ap first w.1))
          l

      near : place sh (at_inner a m (rep x) (rep y)) ≤ place sh (at_inner a m x y)
      near = inner_down sh a m x y (rep x) (rep y) (pair_down rep x y (rep_down x (omega (arith, o.2, in_E))) (rep_down y (omega (arith, o.3, in_E))))

  pub merged_met : FirstMet sh T
  merged_met s h =
      let w = ex.met (first s) (mg.first_in s h) in (
        merged w.0,
        record {
          over = met_over s h w.0 w.1.over;
          is = met_is (first s) (mg.first_in s h) w.0 w.1.over w.1.is ∙ mg.first_is s h;
          first = met_first s h w.0 w.1.over w.1.first;
        },
      )
