-- Numbering the classes of an equivalence as they first appear, one index more at a time.
use Rattle.std.proofs.Common.{◌≡◌, ℕ, suc, ◌<◌, ◌≤◌, ◌⊎◌, ◌↔◌, sym, ap, ◌∙◌, subst, inl, inr, arith}
use Rattle.std.proofs.lemmas.Bool.{cases_lt}
use Rattle.tables.specs.Rounds.{Numbering}

pub record Equivalence (R : ℕ → ℕ → Type 0) : Type 0 where
  pub same : (x : ℕ) → R x x
  pub turn : (x y : ℕ) → R x y → R y x
  pub join : (x y z : ℕ) → R x y → R y z → R x z

pub none_numbered : (R : ℕ → ℕ → Type 0) (f : ℕ → ℕ) → Numbering R f 0 0
none_numbered R f = record {
  few = omega arith;
  below = λ x h. absurd (omega arith);
  first = λ s h. absurd (omega arith);
  same = λ x y h k. absurd (omega arith);
}

-- g is f with a number for n
module _ (R : ℕ → ℕ → Type 0) (eq : Equivalence R) (f g : ℕ → ℕ) (n k : ℕ) (nu : Numbering R f n k) (kept : (x : ℕ) → x < n → g x ≡ f x) where
  last : (x : ℕ) → x < suc n → n ≤ x → n ≡ x
  last x h l = omega arith

  -- the indices before n keep their numbers, so what is to be shown is how n stands to them
  pairs : ((x : ℕ) → x < n → (g x ≡ g n) ↔ R x n) → (x y : ℕ) → x < suc n → y < suc n → (g x ≡ g y) ↔ R x y
  pairs with_last x y h p = go (cases_lt x n) (cases_lt y n)
    where
      go : (x < n) ⊎ (n ≤ x) → (y < n) ⊎ (n ≤ y) → (g x ≡ g y) ↔ R x y
      go (inl l) (inl m) = ((λ v. (nu.same x y l m).0 (sym (kept x l) ∙ (v ∙ kept y m))), λ v. kept x l ∙ ((nu.same x y l m).1 v ∙ sym (kept y m)))
      go (inl l) (inr m) = subst (λ (v : ℕ). (g x ≡ g v) ↔ R x v) (last y p m) (with_last x l)
      go (inr l) (inl m) =
          subst (λ (v : ℕ). (g v ≡ g y) ↔ R v y) (last x h l)
          ((λ v. eq.turn y n ((with_last y m).0 (sym v))), λ v. sym ((with_last y m).1 (eq.turn n y v)))
      go (inr l) (inr m) =
          let w : x ≡ y = sym (last x h l) ∙ last y p m in
          ((λ _. subst (R x) w (eq.same x)), λ _. ap g w)

  first_kept : (s : ℕ) → s < k → (i : ℕ) × (i < suc n) × (g i ≡ s) × ((x : ℕ) → x < i → g x < s)
  first_kept s h =
      let w = nu.first s h in
      (w.0, omega (arith, w.1), kept w.0 w.1 ∙ w.2, λ x l. subst (λ (v : ℕ). v < s) (sym (kept x (omega (arith, w.1)))) (w.3 x l))

  pub joins : (y : ℕ) → y < n → R y n → g n ≡ f y → Numbering R g (suc n) k
  joins y hy r e = record {
    few = omega (arith, nu.few);
    below = λ x h. low x h (cases_lt x n);
    first = first_kept;
    same = pairs λ x l. (
      (λ z. eq.join x y n ((nu.same x y l hy).0 (sym (kept x l) ∙ (z ∙ e))) r),
      λ z. kept x l ∙ ((nu.same x y l hy).1 (eq.join x n y z (eq.turn y n r)) ∙ sym e),
    );
  }
    where
      low : (x : ℕ) → x < suc n → (x < n) ⊎ (n ≤ x) → g x < k
      low x h (inl l) = subst (λ (v : ℕ). v < k) (sym (kept x l)) (nu.below x l)
      low x h (inr l) = subst (λ (v : ℕ). v < k) (sym e ∙ ap g (last x h l)) (nu.below y hy)

  pub opens : ((y : ℕ) → y < n → R y n → ⊥) → g n ≡ k → Numbering R g (suc n) (suc k)
  opens new e = record {
    few = omega (arith, nu.few);
    below = λ x h. low x h (cases_lt x n);
    first = λ s h. start s h (cases_lt s k);
    same = pairs λ x l. ((λ z. absurd (omega (arith, kept x l, nu.below x l, z, e))), λ z. absurd (new x l z));
  }
    where
      low : (x : ℕ) → x < suc n → (x < n) ⊎ (n ≤ x) → g x < suc k
      low x h (inl l) = omega (arith, kept x l, nu.below x l)
      low x h (inr l) = omega (arith, ap g (last x h l), e)

      start : (s : ℕ) → s < suc k → (s < k) ⊎ (k ≤ s) → (i : ℕ) × (i < suc n) × (g i ≡ s) × ((x : ℕ) → x < i → g x < s)
      start s h (inl l) = first_kept s l
      start s h (inr l) = (n, omega arith, e ∙ omega arith, λ x m. omega (arith, kept x m, nu.below x m))
