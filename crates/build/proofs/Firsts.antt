-- The first index of each class.
use Rattle.std.proofs.Common.{◌≡◌, ℕ, zero, suc, ◌+◌, ◌<◌, ◌≤◌, ◌⊎◌, Option, None, Some, IsSome, MatchOption, rules, List, length, get_or, set, sym, ap, subst, inl, inr, arith}
use native.Mathlib.Decide.{dec_lt}
use Rattle.std.proofs.lemmas.List.{get_or-set_same, get_or-set_other}
use Rattle.std.proofs.lemmas.Bool.{cases_order}
use Rattle.build.specs.Refinement.{class_at}
use Rattle.build.specs.Imaging.{Appears, Firsts}

-- one class's first index
record First (cls : List ℕ) (n s v : ℕ) : Type 0 where
  within : v < n
  is : class_at cls v ≡ s
  before : (x : ℕ) → x < v → class_at cls x < s

-- what a search for class s finds
abbrev FoundFirst : List ℕ → ℕ → Option ℕ → Type 0
FoundFirst cls s r =
    MatchOption r ((x : ℕ) → x < length cls → class_at cls x ≡ s → ⊥)
    (λ i. (i < length cls) × (class_at cls i ≡ s) × ((x : ℕ) → x < i → class_at cls x ≡ s → ⊥))

pub appears_found : (cls : List ℕ) (all s : ℕ) (r : Option ℕ) → Appears cls (length cls) all → s < all → FoundFirst cls s r → IsSome r
appears_found cls all s None appears h none = let w = appears s h in absurd (none w.0 w.1 w.2)
appears_found cls all s (Some i) appears h found = search rules

first_found : (cls : List ℕ) (all s v : ℕ) (r : Option ℕ) → r ≡ Some v → Appears cls (length cls) all → s < all → FoundFirst cls s r → First cls (length cls) s v
first_found cls all s v r e appears h found = go (subst (FoundFirst cls s) e found)
  where
    w : (i : ℕ) × (i < length cls) × (class_at cls i ≡ s) × ((x : ℕ) → x < i → class_at cls x < s)
    w = appears s h

    go : FoundFirst cls s (Some v) → First cls (length cls) s v
    go f =
        let reaches : v ≤ w.0 = elim (dec_lt w.0 v) [ yes l ↦ absurd (f.2 w.0 l w.2) | no l ↦ omega (arith, l) ] in
        record { within = f.0; is = f.1; before = λ x l. w.3 x (omega (arith, reaches, l)) }

pub firsts_more : (cls : List ℕ) (all k : ℕ) (firsts : List ℕ) (v : ℕ) (r : Option ℕ) → Appears cls (length cls) all → k < all → Firsts cls (length cls) k firsts → k < length firsts
    → FoundFirst cls k r → r ≡ Some v → Firsts cls (length cls) (k + 1) (set firsts k v)
firsts_more cls all k firsts v r appears hk fi low found e = record {
  within = λ s h. (at s h (dec_lt s k)).within;
  is = λ s h. (at s h (dec_lt s k)).is;
  before = λ s x h l. (at s h (dec_lt s k)).before x l;
}
  where
    at : (s : ℕ) → s < k + 1 → Dec (s < k) → First cls (length cls) s (get_or (set firsts k v) s 0)
    at s h (yes l) = subst (First cls (length cls) s) (sym (get_or-set_other firsts k s v 0 (λ z. omega (arith, z, l))))
        (record { within = fi.within s l; is = fi.is s l; before = λ x m. fi.before s x l m })
    at s h (no l) =
        let z : k ≡ s = omega arith in
        subst (λ (t : ℕ). First cls (length cls) t (get_or (set firsts k v) t 0)) z
        (subst (First cls (length cls) k) (sym (get_or-set_same firsts k v 0 low)) (first_found cls all k v r e appears hk found))

module _ (cls : List ℕ) (n k : ℕ) (firsts : List ℕ) (fi : Firsts cls n k firsts) where
  step_up : (s : ℕ) → suc s < k → get_or firsts s 0 < get_or firsts (suc s) 0
  step_up s h = pick (cases_order (get_or firsts s 0) (get_or firsts (suc s) 0))
    where
      pick : (get_or firsts s 0 ≡ get_or firsts (suc s) 0) ⊎ ((get_or firsts s 0 < get_or firsts (suc s) 0) ⊎ (get_or firsts (suc s) 0 < get_or firsts s 0)) → get_or firsts s 0 < get_or firsts (suc s) 0
      pick (inr (inl e)) = e
      pick (inl e) =
          let z : class_at cls (get_or firsts s 0) ≡ class_at cls (get_or firsts (suc s) 0) = ap (λ (i : ℕ). class_at cls i) e in
          absurd (omega (arith, z, fi.is s (omega arith), fi.is (suc s) h))
      pick (inr (inr e)) = absurd (omega (arith, fi.before s (get_or firsts (suc s) 0) (omega arith) e, fi.is (suc s) h))

  -- a class's first index is no less than its number
  pub first_ge : (s : ℕ) → s < k → s ≤ get_or firsts s 0
  first_ge zero h = omega arith
  first_ge (suc s) h = omega (arith, first_ge s (omega arith), step_up s h)
