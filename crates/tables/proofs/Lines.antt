-- Lines of numbers give their numbers back, whatever follows them.
use Rattle.std.proofs.Common.{◌≡◌, ℕ, zero, suc, ◌+◌, ◌^◌, ◌<◌, ◌≤◌, ◌⊎◌, List, [], ◌∷◌, ◌++◌, map, decimal, sym, refl, ◌∙◌, subst, ap₂, inl, inr, append_assoc, append-nil, arith}
use mathlib.Core.List.{head-eq_of_cons-eq, tail-eq_of_cons-eq}
use Rattle.std.specs.List.{range_with_len}
use Rattle.std.proofs.lemmas.Fmt.{decimal_by_steps, decimal_injective}
use Rattle.std.proofs.lemmas.Bool.{cases_eq}
use Rattle.tables.specs.Texts.{fields, line, over}

-- the texts f and g, each before anything, tell P
abbrev pub Tells : List ℕ → List ℕ → Type 0 → Type 0
Tells f g P = (X Y : List ℕ) → f ++ X ≡ g ++ Y → P × (X ≡ Y)

pub told : (f g : List ℕ) (P : Type 0) → Tells f g P → f ≡ g → P
told f g P h e = (h [] [] (append-nil f ∙ (e ∙ sym (append-nil g)))).0

-- bytes above the comma, as digits are
abbrev Plain : List ℕ → Type 0
Plain [] = Unit {0}
Plain (c ∷ cs) = (44 < c) × Plain cs

plain_push : (ds : List ℕ) (c : ℕ) → Plain ds → 44 < c → Plain (ds ++ (c ∷ []))
plain_push [] c h k = (k, tt)
plain_push (d ∷ ds) c h k = (h.0, plain_push ds c h.1 k)

plain_decimal : (n : ℕ) → n < 2 ^ 64 → Plain (decimal n)
plain_decimal n h = decimal_by_steps (λ n ds. Plain ds) (λ n l. (omega arith, tt)) (λ n ds l p. plain_push ds _ p (omega arith)) n h

-- a text that begins with a byte up to the comma
abbrev Stops : List ℕ → Type 0
Stops [] = ⊥
Stops (c ∷ cs) = c ≤ 44

plain_split : (ds es X Y : List ℕ) → Plain ds → Plain es → Stops X → Stops Y → ds ++ X ≡ es ++ Y → (ds ≡ es) × (X ≡ Y)
plain_split [] [] X Y p q s t e = (refl, e)
plain_split [] (d ∷ es) [] Y p q s t e = elim s [ ]
plain_split [] (d ∷ es) (x ∷ X) Y p q s t e = absurd (omega (arith, head-eq_of_cons-eq e))
plain_split (d ∷ ds) [] X [] p q s t e = elim t [ ]
plain_split (d ∷ ds) [] X (y ∷ Y) p q s t e = absurd (omega (arith, head-eq_of_cons-eq e))
plain_split (d ∷ ds) (c ∷ es) X Y p q s t e =
    let w = plain_split ds es X Y p.1 q.1 s t (tail-eq_of_cons-eq e) in
    (ap₂ {C = List ℕ} (λ a b. a ∷ b) (head-eq_of_cons-eq e) w.0, w.1)

-- numbers that decimals tell apart
abbrev pub Fit : List ℕ → Type 0
Fit [] = Unit {0}
Fit (n ∷ ns) = (n < 2 ^ 64) × Fit ns

fields_stop : (ns X : List ℕ) → Stops (fields ns ++ (10 ∷ X))
fields_stop [] X = omega arith
fields_stop (n ∷ ns) X = omega arith

fields_split : (ns ms X Y : List ℕ) → Fit ns → Fit ms → fields ns ++ (10 ∷ X) ≡ fields ms ++ (10 ∷ Y) → (ns ≡ ms) × (X ≡ Y)
fields_split [] [] X Y p q e = (refl, tail-eq_of_cons-eq e)
fields_split [] (m ∷ ms) X Y p q e = absurd (let z : ◌≡◌ {A = ℕ} 10 44 = head-eq_of_cons-eq e in omega arith)
fields_split (n ∷ ns) [] X Y p q e = absurd (let z : ◌≡◌ {A = ℕ} 44 10 = head-eq_of_cons-eq e in omega arith)
fields_split (n ∷ ns) (m ∷ ms) X Y p q e =
    let w = plain_split (decimal n) (decimal m) (fields ns ++ (10 ∷ X)) (fields ms ++ (10 ∷ Y)) (plain_decimal n p.0) (plain_decimal m q.0)
    (fields_stop ns X) (fields_stop ms Y)
    (sym (append_assoc (decimal n) (fields ns) (10 ∷ X)) ∙ (tail-eq_of_cons-eq e ∙ append_assoc (decimal m) (fields ms) (10 ∷ Y))) in
    let r = fields_split ns ms X Y p.1 q.1 w.1 in
    (ap₂ {C = List ℕ} (λ a b. a ∷ b) (decimal_injective n m p.0 q.0 w.0) r.0, r.1)

pub tells_line : (letter : ℕ) (ns ms : List ℕ) → Fit ns → Fit ms → Tells (line letter ns) (line letter ms) (ns ≡ ms)
tells_line letter ns ms p q X Y e =
    fields_split ns ms X Y p q (sym (append_assoc (fields ns) (10 ∷ []) X) ∙ (tail-eq_of_cons-eq e ∙ append_assoc (fields ms) (10 ∷ []) Y))

-- what holds at a and at each number behind it
from : (P : ℕ → Type 0) (a n : ℕ) → P a → ((j : ℕ) → a + 1 ≤ j → j < a + 1 + n → P j) → (j : ℕ) → a ≤ j → j < a + suc n → P j
from P a n here rest j p q = pick (cases_eq a j)
  where
    pick : (a ≡ j) ⊎ (a ≡ j → ⊥) → P j
    pick (inl z) = subst P z here
    pick (inr z) = rest j (omega arith) (omega arith)

pub tells_over : (f g : ℕ → List ℕ) (P : ℕ → Type 0) (n a : ℕ) → ((j : ℕ) → a ≤ j → j < a + n → Tells (f j) (g j) (P j))
    → Tells (over a n f) (over a n g) ((j : ℕ) → a ≤ j → j < a + n → P j)
tells_over f g P zero a h X Y e = ((λ j p q. absurd (omega arith)), e)
tells_over f g P (suc n) a h X Y e =
    let w = h a (omega arith) (omega arith) (over (a + 1) n f ++ X) (over (a + 1) n g ++ Y)
    (sym (append_assoc (f a) (over (a + 1) n f) X) ∙ (e ∙ append_assoc (g a) (over (a + 1) n g) Y)) in
    let r = tells_over f g P n (a + 1) (λ j p q. h j (omega arith) (omega arith)) X Y w.1 in
    (from P a n w.0 r.0, r.1)

pub tells_map : (f g : ℕ → ℕ) (n a : ℕ) → Tells (map f (range_with_len a n)) (map g (range_with_len a n)) ((j : ℕ) → a ≤ j → j < a + n → f j ≡ g j)
tells_map f g zero a X Y e = ((λ j p q. absurd (omega arith)), e)
tells_map f g (suc n) a X Y e =
    let r = tells_map f g n (a + 1) X Y (tail-eq_of_cons-eq e) in
    (from (λ j. f j ≡ g j) a n (head-eq_of_cons-eq e) r.0, r.1)

pub fit_map : (f : ℕ → ℕ) (n a : ℕ) → ((j : ℕ) → a ≤ j → j < a + n → f j < 2 ^ 64) → Fit (map f (range_with_len a n))
fit_map f zero a h = tt
fit_map f (suc n) a h = (h a (omega arith) (omega arith), fit_map f n (a + 1) (λ j p q. h j (omega arith) (omega arith)))

fit_append : (xs ys : List ℕ) → Fit xs → Fit ys → Fit (xs ++ ys)
fit_append [] ys p q = q
fit_append (x ∷ xs) ys p q = (p.0, fit_append xs ys p.1 q)

pub fit_over : (f : ℕ → List ℕ) (n a : ℕ) → ((j : ℕ) → a ≤ j → j < a + n → Fit (f j)) → Fit (over a n f)
fit_over f zero a h = tt
fit_over f (suc n) a h = fit_append (f a) (over (a + 1) n f) (h a (omega arith) (omega arith)) (fit_over f n (a + 1) (λ j p q. h j (omega arith) (omega arith)))

-- equal parts make equal texts
pub same_map : (f g : ℕ → ℕ) (n a : ℕ) → ((j : ℕ) → a ≤ j → j < a + n → f j ≡ g j) → map f (range_with_len a n) ≡ map g (range_with_len a n)
same_map f g zero a h = refl
same_map f g (suc n) a h = ap₂ {C = List ℕ} (λ x y. x ∷ y) (h a (omega arith) (omega arith)) (same_map f g n (a + 1) (λ j p q. h j (omega arith) (omega arith)))

pub same_over : (f g : ℕ → List ℕ) (n a : ℕ) → ((j : ℕ) → a ≤ j → j < a + n → f j ≡ g j) → over a n f ≡ over a n g
same_over f g zero a h = refl
same_over f g (suc n) a h = ap₂ (λ (x y : List ℕ). x ++ y) (h a (omega arith) (omega arith)) (same_over f g n (a + 1) (λ j p q. h j (omega arith) (omega arith)))
