-- The places of pairs: each pair has one, and written out in their order the pairs have the places 0, 1, 2 and on.
use Rattle.std.proofs.Common.{◌≡◌, ℕ, zero, suc, ◌+◌, ◌*◌, ◌<◌, ◌≤◌, ◌⊎◌, List, ◌∷◌, ◌++◌, map, sym, refl, ap, ◌∙◌, ap₂, inl, inr, mul-le-mul, arith}
use mathlib.Core.List.{map-append}
use Rattle.std.specs.List.{range_with_len}
use Rattle.std.proofs.lemmas.Bool.{cases_lt, cases_order}
use Rattle.automata.specs.Numbering.{pairs, pair_place}

pub place_low : (x y : ℕ) → x ≤ y → pair_place x y ≡ y * y + x
place_low x y h = grind arith

pub place_high : (x y : ℕ) → y < x → pair_place x y ≡ x * x + (x + 1 + y)
place_high x y h = grind arith

-- written out
counted : {A : Type 0} (f : A → ℕ) (g : ℕ → A) (a b n : ℕ) → ((k : ℕ) → k < n → f (g (a + k)) ≡ b + k) → map f (map g (range_with_len a n)) ≡ range_with_len b n
counted f g a b zero h = refl
counted f g a b (suc n) h =
    let z : a ≡ a + 0 = omega arith in
    ap₂ (λ (x : ℕ) (xs : List ℕ). x ∷ xs) (ap (λ (x : ℕ). f (g x)) z ∙ (h 0 (omega arith) ∙ omega arith))
    (counted f g (a + 1) (b + 1) n (λ k l. let e : a + 1 + k ≡ a + (k + 1) = omega arith in ap (λ (x : ℕ). f (g x)) e ∙ (h (k + 1) (omega arith) ∙ omega arith)))

counting_append : (a m n : ℕ) → range_with_len a m ++ range_with_len (a + m) n ≡ range_with_len a (m + n)
counting_append a zero n =
    let e : a + 0 ≡ a = omega arith in
    let f : n ≡ 0 + n = omega arith in
    ap₂ range_with_len e f
counting_append a (suc m) n =
    let e : a + suc m ≡ a + 1 + m = omega arith in
    let f : suc m + n ≡ suc (m + n) = omega arith in
    ap (λ (x : ℕ). a ∷ (range_with_len (a + 1) m ++ range_with_len x n)) e ∙ (ap (λ (xs : List ℕ). a ∷ xs) (counting_append (a + 1) m n) ∙ ap (range_with_len a) (sym f))

abbrev pub place_of : ℕ × ℕ → ℕ
place_of p = pair_place p.0 p.1

pub pairs_placed : (n : ℕ) → map place_of (pairs n) ≡ range_with_len 0 (n * n)
pairs_placed zero = refl
pairs_placed (suc m) =
    map-append place_of (pairs m) _
    ∙ (ap₂ (λ (xs ys : List ℕ). xs ++ ys) (pairs_placed m) (map-append place_of (map (λ x. (x, m)) (range_with_len 0 (m + 1))) _ ∙ ap₂ (λ (xs ys : List ℕ). xs ++ ys) rising falling)
    ∙ joined)
  where
    rising : map place_of (map (λ x. (x, m)) (range_with_len 0 (m + 1))) ≡ range_with_len (m * m) (m + 1)
    rising = counted place_of (λ x. (x, m)) 0 (m * m) (m + 1) (λ k l. place_low (0 + k) m (omega arith) ∙ omega arith)

    falling : map place_of (map (λ y. (m, y)) (range_with_len 0 m)) ≡ range_with_len (m * m + (m + 1)) m
    falling = counted place_of (λ y. (m, y)) 0 (m * m + (m + 1)) m (λ k l. place_high m (0 + k) (omega arith) ∙ omega arith)

    joined : range_with_len 0 (m * m) ++ (range_with_len (m * m) (m + 1) ++ range_with_len (m * m + (m + 1)) m) ≡ range_with_len 0 (suc m * suc m)
    joined =
        let e : 0 + m * m ≡ m * m = omega arith in
        let f : m * m + (m + 1 + m) ≡ suc m * suc m = omega arith in
        ap (λ (xs : List ℕ). range_with_len 0 (m * m) ++ xs) (counting_append (m * m) (m + 1) m ∙ ap (λ (x : ℕ). range_with_len x (m + 1 + m)) (sym e))
        ∙ (counting_append 0 (m * m) (m + 1 + m) ∙ ap (range_with_len 0) f)

-- one place a pair
pub square_lt : (x y : ℕ) → x < y → x * x + 2 * x + 1 ≤ y * y
square_lt x y h = let p : suc x * suc x ≤ y * y = mul-le-mul h h in omega arith

-- the greater of the two, and where the pair stands among those with that greater number
abbrev pub Spot : ℕ → ℕ → ℕ → ℕ → Type 0
Spot x y m d = ((x ≤ y) × (m ≡ y) × (d ≡ x)) ⊎ ((y < x) × (m ≡ x) × (d ≡ x + 1 + y))

pub record Spotted (x y : ℕ) : Type 0 where
  pub greater : ℕ
  pub among : ℕ
  pub spot : Spot x y greater among
  pub placed : pair_place x y ≡ greater * greater + among
  pub few : among ≤ 2 * greater

pub spotted : (x y : ℕ) → Spotted x y
spotted x y = go (cases_lt y x)
  where
    go : (y < x) ⊎ (x ≤ y) → Spotted x y
    go (inl h) = record { greater = x; among = x + 1 + y; spot = inr (h, refl, refl); placed = place_high x y h; few = omega arith }
    go (inr h) = record { greater = y; among = x; spot = inl (h, refl, refl); placed = place_low x y h; few = omega arith }

pub pair_place_inj : (x y u v : ℕ) → pair_place x y ≡ pair_place u v → (x ≡ u) × (y ≡ v)
pair_place_inj x y u v e = pick (spotted x y) (spotted u v) (cases_order _ _)
  where
    same : (m n d c : ℕ) → Spot x y m d → Spot u v n c → m ≡ n → d ≡ c → (x ≡ u) × (y ≡ v)
    same m n d c (inl a) (inl b) h g = omega arith
    same m n d c (inl a) (inr b) h g = omega arith
    same m n d c (inr a) (inl b) h g = omega arith
    same m n d c (inr a) (inr b) h g = omega arith

    pick : (s : Spotted x y) (w : Spotted u v) → (s.greater ≡ w.greater) ⊎ ((s.greater < w.greater) ⊎ (w.greater < s.greater)) → (x ≡ u) × (y ≡ v)
    pick s w (inl h) =
        let r : s.greater * s.greater ≡ w.greater * w.greater = ap (λ (a : ℕ). a * a) h in
        same s.greater w.greater s.among w.among s.spot w.spot h (omega arith)
    pick s w (inr (inl h)) = absurd (omega (arith, square_lt s.greater w.greater h))
    pick s w (inr (inr h)) = absurd (omega (arith, square_lt w.greater s.greater h))
