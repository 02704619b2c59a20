-- How the places of pairs and of inner questions move when the states are numbered anew.
use Rattle.std.proofs.Common.{◌≡◌, ℕ, suc, ◌+◌, ◌-◌, ◌*◌, ◌^◌, ◌<◌, ◌≤◌, ◌⊎◌, ap, ap₂, inl, inr, mul-le-mul_right, arith}
use Rattle.std.proofs.lemmas.Bool.{cases_lt, cases_order}
use Rattle.trees.specs.declared.shape.Shape.{Shape}
use Rattle.automata.specs.Numbering.{at_inner, Over, place, pair_place}
use Rattle.automata.proofs.PairPlaces.{place_low, place_high, square_lt, Spot, Spotted, spotted}
use Rattle.automata.proofs.Places.{digits_inj, digits_order}

-- numbers that go down together, both by the same rule, do not go up in the order of pairs
pub pair_down : (g : ℕ → ℕ) (x y : ℕ) → g x ≤ x → g y ≤ y → pair_place (g x) (g y) ≤ pair_place x y
pair_down g x y h k = pick (spotted (g x) (g y)) (spotted x y) (cases_order _ _)
  where
    same : (m n d c : ℕ) → Spot (g x) (g y) m d → Spot x y n c → (x ≡ y) ⊎ ((x < y) ⊎ (y < x)) → m ≡ n → d ≤ c
    same m n d c (inl a) (inl b) o e = omega arith
    same m n d c (inl a) (inr b) o e = omega arith
    same m n d c (inr a) (inl b) (inl o) e = absurd (let z : g x ≡ g y = ap g o in omega arith)
    same m n d c (inr a) (inl b) (inr (inl o)) e = absurd (omega arith)
    same m n d c (inr a) (inl b) (inr (inr o)) e = absurd (omega arith)
    same m n d c (inr a) (inr b) o e = omega arith

    above : (m n d c : ℕ) → Spot (g x) (g y) m d → Spot x y n c → n < m → ⊥
    above m n d c (inl a) (inl b) e = omega arith
    above m n d c (inl a) (inr b) e = omega arith
    above m n d c (inr a) (inl b) e = omega arith
    above m n d c (inr a) (inr b) e = omega arith

    pick : (s : Spotted (g x) (g y)) (w : Spotted x y) → (s.greater ≡ w.greater) ⊎ ((s.greater < w.greater) ⊎ (w.greater < s.greater))
        → pair_place (g x) (g y) ≤ pair_place x y
    pick s w (inl e) =
        let r : s.greater * s.greater ≡ w.greater * w.greater = ap (λ (a : ℕ). a * a) e in
        omega (arith, same s.greater w.greater s.among w.among s.spot w.spot (cases_order x y) e)
    pick s w (inr (inl e)) = omega (arith, square_lt s.greater w.greater e)
    pick s w (inr (inr e)) = absurd (above s.greater w.greater s.among w.among s.spot w.spot e)

-- a rising renumbering keeps the order of pairs
module _ (f : ℕ → ℕ) (k : ℕ) (up : (i j : ℕ) → i < j → j < k → f i < f j) where
  weak : (i j : ℕ) → i ≤ j → j < k → f i ≤ f j
  weak i j h l = go (cases_order i j)
    where
      go : (i ≡ j) ⊎ ((i < j) ⊎ (j < i)) → f i ≤ f j
      go (inl e) = let z : f i ≡ f j = ap f e in omega arith
      go (inr (inl e)) = omega (arith, up i j e l)
      go (inr (inr e)) = absurd (omega arith)

  -- m and n the greater numbers, d and c the places among those with them
  spots_up : (m n d c d' c' : ℕ) → m < k → n < k → d ≤ 2 * m → c ≤ 2 * n → d' ≤ 2 * f m → (m ≡ n → d < c → d' < c') → m * m + d < n * n + c
      → f m * f m + d' < f n * f n + c'
  spots_up m n d c d' c' hm hn hd hc hd' keep l = go (cases_order m n)
    where
      go : (m ≡ n) ⊎ ((m < n) ⊎ (n < m)) → f m * f m + d' < f n * f n + c'
      go (inl e) =
          let r : m * m ≡ n * n = ap (λ (a : ℕ). a * a) e in
          let q : f m * f m ≡ f n * f n = ap (λ (a : ℕ). f a * f a) e in
          let z : d' < c' = keep e (omega arith) in
          omega arith
      go (inr (inl e)) = omega (arith, square_lt (f m) (f n) (up m n e hn))
      go (inr (inr e)) = absurd (omega (arith, square_lt n m e))

  pub pair_up : (x y u v : ℕ) → x < k → y < k → u < k → v < k → pair_place x y < pair_place u v → pair_place (f x) (f y) < pair_place (f u) (f v)
  pair_up x y u v hx hy hu hv l = go (cases_lt y x) (cases_lt v u)
    where
      go : (y < x) ⊎ (x ≤ y) → (v < u) ⊎ (u ≤ v) → pair_place (f x) (f y) < pair_place (f u) (f v)
      go (inr a) (inr b) =
          rw (place_low (f x) (f y) (weak x y a hy), place_low (f u) (f v) (weak u v b hv))
          (spots_up y v x u (f x) (f u) hy hv (omega arith) (omega arith) (omega (arith, weak x y a hy)) (λ e z. up x u z hu)
          (omega (arith, place_low x y a, place_low u v b, l)))
      go (inr a) (inl b) =
          rw (place_low (f x) (f y) (weak x y a hy), place_high (f u) (f v) (up v u b hu))
          (spots_up y u x (u + 1 + v) (f x) (f u + 1 + f v) hy hu (omega arith) (omega arith) (omega (arith, weak x y a hy))
          (λ e z. let w : f y ≡ f u = ap f e in omega (arith, weak x y a hy))
          (omega (arith, place_low x y a, place_high u v b, l)))
      go (inl a) (inr b) =
          rw (place_high (f x) (f y) (up y x a hx), place_low (f u) (f v) (weak u v b hv))
          (spots_up x v (x + 1 + y) u (f x + 1 + f y) (f u) hx hv (omega arith) (omega arith) (omega (arith, up y x a hx))
          (λ e z. absurd (omega arith))
          (omega (arith, place_high x y a, place_low u v b, l)))
      go (inl a) (inl b) =
          rw (place_high (f x) (f y) (up y x a hx), place_high (f u) (f v) (up v u b hu))
          (spots_up x u (x + 1 + y) (u + 1 + v) (f x + 1 + f y) (f u + 1 + f v) hx hu (omega arith) (omega arith) (omega (arith, up y x a hx))
          (λ e z. let w : f x ≡ f u = ap f e in let t : y < v = omega arith in omega (arith, up y v t hv))
          (omega (arith, place_high x y a, place_high u v b, l)))

-- numbers of two digits whose high digit moves
digits_up : (q r q' r' p p' c : ℕ) → r < c → r' < c → (q < q' → p < p') → (q ≡ q' → p ≡ p') → q * c + r < q' * c + r' → p * c + r < p' * c + r'
digits_up q r q' r' p p' c h k f g l = go (digits_order q r q' r' c k l)
  where
    go : (q < q') ⊎ ((q ≡ q') × (r < r')) → p * c + r < p' * c + r'
    go (inl e) = let z : suc p * c ≤ p' * c = mul-le-mul_right c (f e) in omega arith
    go (inr e) = let w : p * c ≡ p' * c = ap (λ (n : ℕ). n * c) (g e.0) in omega arith

digits_same : (q r q' r' p p' c : ℕ) → r < c → r' < c → (q ≡ q' → p ≡ p') → q * c + r ≡ q' * c + r' → p * c + r ≡ p' * c + r'
digits_same q r q' r' p p' c h k g e = let z = digits_inj q r q' r' c h k e in ap₂ (λ (a b : ℕ). a * c + b) (g z.0) z.1

-- inner questions keep their order where their pairs do
pub inner_up : (sh : Shape) (n a m x y b j u v x' y' u' v' : ℕ) → Over sh n (at_inner a m x y) → Over sh n (at_inner b j u v)
    → (pair_place x y < pair_place u v → pair_place x' y' < pair_place u' v') → (pair_place x y ≡ pair_place u v → pair_place x' y' ≡ pair_place u' v')
    → place sh (at_inner a m x y) < place sh (at_inner b j u v) → place sh (at_inner a m x' y') < place sh (at_inner b j u' v')
inner_up sh n a m x y b j u v x' y' u' v' o p f g l =
    let A = a - sh.leaves in
    let B = b - sh.leaves in
    let I = sh.inners in
    let ha : a - sh.leaves < sh.inners = omega arith in
    let hb : b - sh.leaves < sh.inners = omega arith in
    let z = digits_up (pair_place x y * I + A) m (pair_place u v * I + B) j (pair_place x' y' * I + A) (pair_place u' v' * I + B) (2 ^ sh.tracks) o.1 p.1
    (digits_up (pair_place x y) A (pair_place u v) B (pair_place x' y') (pair_place u' v') I ha hb f g)
    (digits_same (pair_place x y) A (pair_place u v) B (pair_place x' y') (pair_place u' v') I ha hb g)
    (omega (arith, l)) in
    omega (arith, z)

pub inner_down : (sh : Shape) (b j u v u' v' : ℕ) → pair_place u' v' ≤ pair_place u v → place sh (at_inner b j u' v') ≤ place sh (at_inner b j u v)
inner_down sh b j u v u' v' h =
    let I = sh.inners in
    let z : pair_place u' v' * I ≤ pair_place u v * I = mul-le-mul_right I h in
    let w : (pair_place u' v' * I + (b - sh.leaves)) * 2 ^ sh.tracks ≤ (pair_place u v * I + (b - sh.leaves)) * 2 ^ sh.tracks
    = mul-le-mul_right (2 ^ sh.tracks) (omega (arith, z)) in
    omega (arith, w)
