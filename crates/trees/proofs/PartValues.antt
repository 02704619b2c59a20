-- A stack with a value for each open part.
use Rattle.std.proofs.Common.{◌≡◌, ℕ, ◌+◌, ◌-◌, ◌<◌, ◌≤◌, ◌≢◌, List, [], ◌∷◌, length, get_or, set, sym, ap, ◌∙◌, subst, arith}
use Rattle.std.proofs.lemmas.List.{length-set, get_or-set_same, get_or-set_other}
use Rattle.trees.specs.Trees.{Tree, leaf, inner}
use Rattle.trees.specs.Parts.{ValuesOf, Held}

module _ {V : Type 0} (P : V → Tree → Type 0) (xs : List V) where
  -- a write above the open parts
  values_above : (ts : List Tree) (i : ℕ) (v : V) → length ts ≤ i → ValuesOf P xs ts → ValuesOf P (set xs i v) ts
  values_above [] i v le h = tt
  values_above (t ∷ ts) i v le h =
      let ne : length ts ≢ i = omega arith in
      (simp length-set h.0, (λ d. subst (λ (x : V). P x t) (sym (get_or-set_other xs i (length ts) v d ne)) (h.1 d)), values_above ts i v (omega arith) h.2)

  values_push : (t : Tree) (ts : List Tree) (i : ℕ) (v : V) → length ts ≡ i → i < length xs → P v t → ValuesOf P xs ts → ValuesOf P (set xs i v) (t ∷ ts)
  values_push t ts i v e lt is h = (
    simp length-set (omega arith),
    (λ d. subst (λ (x : V). P x t) (sym (ap (λ (k : ℕ). get_or (set xs i v) k d) e ∙ get_or-set_same xs i v d lt)) is),
    values_above ts i v (omega arith) h,
  )

  -- a leaf on top of i open parts
  pub leaf_held : (a m : ℕ) (ts : List Tree) (i : ℕ) (v : V) → length ts ≡ i → i < length xs → P v (leaf a m) → Held P xs ts → Held P (set xs i v) (leaf a m ∷ ts)
  leaf_held a m ts i v e lt is h = (values_push (leaf a m) ts i v e lt is h.0, tt)

  -- an inner node in the place of the newest two of h open parts
  pub inner_held : (a m : ℕ) (l r : Tree) (ts : List Tree) (h : ℕ) (c d v : V) → length ts + 2 ≡ h
      → (P (get_or xs (h - 2) c) l → P (get_or xs (h - 1) d) r → P v (inner a m l r)) → Held P xs (r ∷ l ∷ ts) → Held P (set xs (h - 2) v) (inner a m l r ∷ ts)
  inner_held a m l r ts h c d v e made held =
      let p : length ts ≡ h - 2 = omega arith in
      let q : length (l ∷ ts) ≡ h - 1 = omega arith in
      let left = subst (λ (k : ℕ). P (get_or xs k c) l) p (held.0.2.1 c) in
      let right = subst (λ (k : ℕ). P (get_or xs k d) r) q (held.0.1 d) in
      let apart : h - 2 ≢ length (l ∷ ts) = omega arith in (
        values_push (inner a m l r) ts (h - 2) v p (omega (arith, held.0.2.0)) (made left right) held.0.2.2,
        (simp length-set held.0.0, λ d. subst (λ (x : V). P x r) (sym (get_or-set_other xs (h - 2) (length (l ∷ ts)) v d (omega arith))) (held.0.1 d)),
      )
