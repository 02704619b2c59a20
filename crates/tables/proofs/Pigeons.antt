-- Numbers that differ and are below a bound: no more than the bound, and all there are where they are as many.
use Rattle.std.proofs.Common.{◌≡◌, ℕ, zero, suc, ◌<◌, ◌≤◌, ◌⊎◌, sym, ap, ◌∙◌, inl, inr, arith}
use native.Mathlib.Decide.{dec_lt}
use Rattle.std.proofs.lemmas.Bool.{cases_eq, cases_lt}

-- one pigeon less, one hole less: who sits in hole c moves to where the last pigeon sits
total_pigeon : (c n : ℕ) (f : ℕ → ℕ) → ((i : ℕ) → i < n → f i < c) → ((i j : ℕ) → i < n → j < n → f i ≡ f j → i ≡ j) → n ≤ c
total_pigeon c zero f h inj = omega arith
total_pigeon zero (suc n) f h inj = absurd (omega (arith, h 0 (omega arith)))
total_pigeon (suc c) (suc n) f h inj =
    omega (arith, total_pigeon c n (λ i. moved i (cases_eq (f i) c)) (λ i l. low i l (cases_eq (f i) c)) (λ i j l k. apart i j l k (cases_eq (f i) c) (cases_eq (f j) c)))
  where
    moved : (i : ℕ) → (f i ≡ c) ⊎ (f i ≡ c → ⊥) → ℕ
    moved i (inl e) = f n
    moved i (inr e) = f i

    last_low : (i : ℕ) → i < n → f i ≡ c → (f n ≡ c) ⊎ (f n ≡ c → ⊥) → f n < c
    last_low i l e (inl z) = absurd (omega (arith, inj i n (omega arith) (omega arith) (e ∙ sym z)))
    last_low i l e (inr z) = omega (arith, h n (omega arith))

    low : (i : ℕ) → i < n → (d : (f i ≡ c) ⊎ (f i ≡ c → ⊥)) → moved i d < c
    low i l (inl e) = last_low i l e (cases_eq (f n) c)
    low i l (inr e) = omega (arith, h i (omega arith))

    apart : (i j : ℕ) → i < n → j < n → (d : (f i ≡ c) ⊎ (f i ≡ c → ⊥)) (d' : (f j ≡ c) ⊎ (f j ≡ c → ⊥)) → moved i d ≡ moved j d' → i ≡ j
    apart i j l k (inl e) (inl e') z = inj i j (omega arith) (omega arith) (e ∙ sym e')
    apart i j l k (inl e) (inr e') z = absurd (omega (arith, inj n j (omega arith) (omega arith) z))
    apart i j l k (inr e) (inl e') z = absurd (omega (arith, inj i n (omega arith) (omega arith) z))
    apart i j l k (inr e) (inr e') z = inj i j (omega arith) (omega arith) z

-- f below n, and d from there on
abbrev pub or_else : (n : ℕ) → ((i : ℕ) → i < n → ℕ) → ℕ → (i : ℕ) → Dec (i < n) → ℕ
or_else n f d i (yes h) = f i h
or_else n f d i (no h) = d

-- what holds of f at each number below n
pub or_else_all : (P : ℕ → ℕ → Type 0) (n : ℕ) (f : (i : ℕ) → i < n → ℕ) (d : ℕ) → ((i : ℕ) (h : i < n) → P i (f i h))
    → (i : ℕ) → i < n → (w : Dec (i < n)) → P i (or_else n f d i w)
or_else_all P n f d all i l (yes h) = all i h
or_else_all P n f d all i l (no h) = absurd (h l)

module _ (c n : ℕ) (f : (i : ℕ) → i < n → ℕ) (low : (i : ℕ) (h : i < n) → f i h < c)
    (inj : (i j : ℕ) (h : i < n) (k : j < n) → f i h ≡ f j k → i ≡ j) where
  pub pigeon : n ≤ c
  pigeon =
      total_pigeon c n (λ i. or_else n f 0 i (dec_lt i n)) (λ i l. or_else_all (λ i v. v < c) n f 0 low i l (dec_lt i n))
      (λ i j l k. apart i j l k (dec_lt i n) (dec_lt j n))
    where
      apart : (i j : ℕ) → i < n → j < n → (w : Dec (i < n)) (v : Dec (j < n)) → or_else n f 0 i w ≡ or_else n f 0 j v → i ≡ j
      apart i j l k (yes h) (yes g) z = inj i j h g z
      apart i j l k (yes h) (no g) z = absurd (g k)
      apart i j l k (no h) v z = absurd (h l)

-- whether g takes the value t below n
taken : (g : ℕ → ℕ) (t n : ℕ) → ((i : ℕ) × (i < n) × (g i ≡ t)) ⊎ ((i : ℕ) → i < n → g i ≡ t → ⊥)
taken g t zero = inr (λ i h. absurd (omega (arith, h)))
taken g t (suc n) = go (taken g t n) (cases_eq (g n) t)
  where
    go : ((i : ℕ) × (i < n) × (g i ≡ t)) ⊎ ((i : ℕ) → i < n → g i ≡ t → ⊥) → (g n ≡ t) ⊎ (g n ≡ t → ⊥)
        → ((i : ℕ) × (i < suc n) × (g i ≡ t)) ⊎ ((i : ℕ) → i < suc n → g i ≡ t → ⊥)
    go (inl w) d = inl (w.0, omega arith, w.2)
    go (inr w) (inl e) = inl (n, omega arith, e)
    go (inr w) (inr e) = inr (λ i h z. pick i h z (cases_lt i n))
      where
        pick : (i : ℕ) → i < suc n → g i ≡ t → (i < n) ⊎ (n ≤ i) → ⊥
        pick i h z (inl l) = w i l z
        pick i h z (inr l) = let q : n ≡ i = omega arith in e (ap g q ∙ z)

-- if t were not taken, t would sit beside the n others below n
pub pigeon_onto : (n : ℕ) (f : (i : ℕ) → i < n → ℕ) → ((i : ℕ) (h : i < n) → f i h < n)
    → ((i j : ℕ) (h : i < n) (k : j < n) → f i h ≡ f j k → i ≡ j) → (t : ℕ) → t < n → (i : ℕ) × (h : i < n) × (f i h ≡ t)
pigeon_onto n f low inj t below = go (taken (λ i. or_else n f n i (dec_lt i n)) t n)
  where
    there : (i : ℕ) → i < n → (w : Dec (i < n)) → or_else n f n i w ≡ t → (i : ℕ) × (h : i < n) × (f i h ≡ t)
    there i l (yes h) z = (i, h, z)
    there i l (no h) z = absurd (h l)

    small : (i : ℕ) (w : Dec (i < n)) → or_else n f t i w < n
    small i (yes h) = low i h
    small i (no h) = below

    apart : (i j : ℕ) → i < suc n → j < suc n → (w : Dec (i < n)) (v : Dec (j < n)) → (i < n → or_else n f n i w ≡ t → ⊥) → (j < n → or_else n f n j v ≡ t → ⊥)
        → or_else n f t i w ≡ or_else n f t j v → i ≡ j
    apart i j l k (yes h) (yes g) a b z = inj i j h g z
    apart i j l k (yes h) (no g) a b z = absurd (a h z)
    apart i j l k (no h) (yes g) a b z = absurd (b g (sym z))
    apart i j l k (no h) (no g) a b z = omega arith

    go : ((i : ℕ) × (i < n) × (or_else n f n i (dec_lt i n) ≡ t)) ⊎ ((i : ℕ) → i < n → or_else n f n i (dec_lt i n) ≡ t → ⊥) → (i : ℕ) × (h : i < n) × (f i h ≡ t)
    go (inl w) = there w.0 w.1 (dec_lt w.0 n) w.2
    go (inr w) =
        absurd (omega (
          arith,
          pigeon n (suc n) (λ i h. or_else n f t i (dec_lt i n)) (λ i h. small i (dec_lt i n))
              (λ i j h k. apart i j h k (dec_lt i n) (dec_lt j n) (w i) (w j)),
        ))
