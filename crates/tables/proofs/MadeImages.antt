-- Every table of at most N states has its bytes.
use Rattle.std.proofs.Common.{◌≡◌, ℕ, ◌+◌, ◌-◌, ◌*◌, ◌/◌, ◌%◌, ◌^◌, ◌<◌, ◌≤◌, false, cond, ◌&&◌, ltb, ◌⊎◌, List, ◌∷◌, ◌++◌, map, length, get_or, refl, ap, ◌∙◌, ap₂, inl, inr, one-add, arith, length-append}
use lib.Arith.{digits_div, digits_mod, digits_lt}
use Rattle.std.specs.List.{range_with_len}
use Rattle.std.proofs.lemmas.List.FromFn.{length-map-range_with_len, get_or-map-range_with_len}
use Rattle.std.proofs.lemmas.List.{get_or_append_left, get_or-append_right}
use Rattle.std.proofs.lemmas.Bool.{lt-ltb, le-ltb, and_from, and_left, and_right, cond-true, cond-false}
use Rattle.trees.specs.declared.shape.Shape.{Shape}
use Rattle.trees.specs.Shapes.{InnerLabel, Marks}
use Rattle.automata.specs.Atoms.{one_if}
use Rattle.automata.specs.Numbering.{Table}
use Rattle.tables.specs.Images.{Image, inner_address}

-- three blocks behind one byte
module _ (n a b c : ℕ) (f g h : ℕ → ℕ) where
  abbrev front : List ℕ
  front = n ∷ map f (range_with_len 0 a)

  abbrev rest : List ℕ
  rest = map g (range_with_len 0 b) ++ map h (range_with_len 0 c)

  abbrev blocks : List ℕ
  blocks = front ++ rest

  front_length : length front ≡ 1 + a
  front_length = omega (arith, length-map-range_with_len f 0 a)

  in_first : (j : ℕ) → j < a → get_or blocks (1 + j) 0 ≡ f j
  in_first j l =
      rw (one-add j) (get_or_append_left (map f (range_with_len 0 a)) rest 0 j (rw (length-map-range_with_len f 0 a) l) ∙ get_or-map-range_with_len f 0 a j j 0 l (omega arith))

  in_second : (j : ℕ) → j < b → get_or blocks (1 + a + j) 0 ≡ g j
  in_second j l =
      get_or-append_right front rest (1 + a) (1 + a + j) 0 front_length (omega arith)
      ∙ (ap (λ (i : ℕ). get_or rest i 0) (omega arith)
      ∙ (get_or_append_left (map g (range_with_len 0 b)) (map h (range_with_len 0 c)) 0 j (rw (length-map-range_with_len g 0 b) l) ∙ get_or-map-range_with_len g 0 b j j 0 l (omega arith)))

  in_third : (j : ℕ) → j < c → get_or blocks (1 + a + b + j) 0 ≡ h j
  in_third j l =
      get_or-append_right front rest (1 + a) (1 + a + b + j) 0 front_length (omega arith)
      ∙ (get_or-append_right (map g (range_with_len 0 b)) (map h (range_with_len 0 c)) b (1 + a + b + j - (1 + a)) 0 (length-map-range_with_len g 0 b) (omega arith)
      ∙ (ap (λ (i : ℕ). get_or (map h (range_with_len 0 c)) i 0) (omega arith) ∙ get_or-map-range_with_len h 0 c j j 0 l (omega arith)))

  blocks_length : length blocks ≡ 1 + a + b + c
  blocks_length =
      omega (arith, length-append front rest, length-append (map g (range_with_len 0 b)) (map h (range_with_len 0 c)), front_length, length-map-range_with_len g 0 b, length-map-range_with_len h 0 c)

module _ (sh : Shape) (N : ℕ) (T : Table) where
  abbrev ways : ℕ
  ways = 2 ^ sh.tracks

  abbrev final_byte : ℕ → ℕ
  final_byte s = cond (ltb s T.states) (one_if (T.final s)) 0

  abbrev leaf_byte : ℕ → ℕ
  leaf_byte j = T.leaf_cell (j / ways) (j % ways)

  -- the cell of the label and marks that r has as its digits
  abbrev cell : ℕ → ℕ → ℕ → ℕ
  cell r x y = cond (ltb x T.states && ltb y T.states) (T.inner_cell (sh.leaves + r / ways) (r % ways) x y) 0

  abbrev inner_byte : ℕ → ℕ
  inner_byte j = cell (j / (N * N)) (j / N % N) (j % N)

  -- how many leaf cells and inner cells there are
  abbrev leaf_count : ℕ
  leaf_count = sh.leaves * 2 ^ sh.tracks

  abbrev inner_count : ℕ
  inner_count = sh.inners * 2 ^ sh.tracks * N * N

  abbrev pub made_bytes : List ℕ
  made_bytes = blocks T.states N leaf_count inner_count final_byte leaf_byte inner_byte

  inner_byte_is : (r x y : ℕ) → x < N → y < N → inner_byte (r * (N * N) + x * N + y) ≡ cell r x y
  inner_byte_is r x y hx hy =
      let J = r * (N * N) + x * N + y in
      let e : r * (N * N) + x * N + y ≡ r * (N * N) + (x * N + y) = omega arith in
      let f : r * (N * N) + x * N + y ≡ (r * N + x) * N + y = omega arith in
      let e1 : J / (N * N) ≡ r = ap (λ (j : ℕ). j / (N * N)) e ∙ digits_div r (digits_lt hx hy) in
      let e2 : J / N % N ≡ x = ap (λ (j : ℕ). j / N % N) f ∙ (ap (λ (j : ℕ). j % N) (digits_div (r * N + x) hy) ∙ digits_mod r hx) in
      let e3 : J % N ≡ y = ap (λ (j : ℕ). j % N) f ∙ digits_mod (r * N + x) hy in
      ap (λ (i : ℕ). cell i (J / N % N) (J % N)) e1 ∙ ap₂ (cell r) e2 e3

  inner_byte_at : (a m x y : ℕ) → InnerLabel sh a → Marks sh m → x < N → y < N
      → get_or made_bytes (inner_address sh N a m x y) 0 ≡ cond (ltb x T.states && ltb y T.states) (T.inner_cell a m x y) 0
  inner_byte_at a m x y h k hx hy =
      let b : a - sh.leaves < sh.inners = omega arith in
      let r = (a - sh.leaves) * 2 ^ sh.tracks + m in
      let low : (r * (N * N) + (x * N + y)) < sh.inners * 2 ^ sh.tracks * (N * N) = digits_lt (digits_lt b k) (digits_lt hx hy) in
      let ea : sh.leaves + r / 2 ^ sh.tracks ≡ a = ap (λ (z : ℕ). sh.leaves + z) (digits_div (a - sh.leaves) k) ∙ omega arith in
      in_third T.states N leaf_count inner_count final_byte leaf_byte inner_byte (r * (N * N) + x * N + y) (omega (arith, low))
      ∙ (inner_byte_is r x y hx hy
      ∙ ap₂ (λ (b j : ℕ). cond (ltb x T.states && ltb y T.states) (T.inner_cell b j x y) 0) ea (digits_mod (a - sh.leaves) k))

  pub image_made : T.states ≤ N → Image sh N T made_bytes
  image_made few = record {
    few = few;
    long = blocks_length T.states N leaf_count inner_count final_byte leaf_byte inner_byte;
    states = refl;
    final = λ s h. first s (omega arith) ∙ cond-true (ltb s T.states) (one_if (T.final s)) 0 (lt-ltb s T.states h);
    unused_final = λ s h k. first s k ∙ cond-false (ltb s T.states) (one_if (T.final s)) 0 (le-ltb s T.states h);
    leaf_cell = λ a m h k.
        in_second T.states N leaf_count inner_count final_byte leaf_byte inner_byte (a * 2 ^ sh.tracks + m) (digits_lt h k)
        ∙ ap₂ T.leaf_cell (digits_div a k) (digits_mod a k);
    inner_cell = λ a m x y h k u v.
        inner_byte_at a m x y h k (omega arith) (omega arith)
        ∙ cond-true _ (T.inner_cell a m x y) 0 (and_from (ltb x T.states) (ltb y T.states) (lt-ltb x T.states u) (lt-ltb y T.states v));
    unused_inner = λ a m x y h k hx hy out. inner_byte_at a m x y h k hx hy ∙ cond-false _ (T.inner_cell a m x y) 0 (unused x y out);
  }
    where
      first : (s : ℕ) → s < N → get_or made_bytes (1 + s) 0 ≡ final_byte s
      first s h = in_first T.states N leaf_count inner_count final_byte leaf_byte inner_byte s h

      unused : (x y : ℕ) → (T.states ≤ x) ⊎ (T.states ≤ y) → (ltb x T.states && ltb y T.states) ≡ false
      unused x y (inl u) = and_left (ltb x T.states) (ltb y T.states) (le-ltb x T.states u)
      unused x y (inr v) = and_right (ltb x T.states) (ltb y T.states) (le-ltb y T.states v)
