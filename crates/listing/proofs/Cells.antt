-- Cells that stand side by side.
use Rattle.std.proofs.Common.{◌≡◌, ℕ, zero, suc, ◌+◌, ◌-◌, ◌*◌, ◌^◌, ◌<◌, ◌≤◌, List, [], ◌∷◌, ◌++◌, map, length, get_or, take, drop, sym, ap, ◌∙◌, append_assoc, append-nil, arith, length-drop, length-take-le}
use Rattle.std.specs.List.{range_with_len}
use Rattle.std.proofs.lemmas.List.{ext_get_or, get_or-map, get_or-take, get_or-drop, length-map}
use Rattle.std.proofs.lemmas.List.FromFn.{length-map-range_with_len, get_or-map-range_with_len, map-range_with_len_more}
use Rattle.trees.specs.declared.shape.Shape.{Shape}
use Rattle.trees.specs.Shapes.{InnerLabel, Marks}
use Rattle.automata.specs.Numbering.{at_inner}
use Rattle.listing.specs.declared.text.Slot.{Slot}
use Rattle.tables.specs.Images.{leaf_rows, leaf_address, inner_address, kept}
use Rattle.tables.specs.Texts.{over}
use Rattle.tables.proofs.Questions.{address_lt}
use Rattle.tables.proofs.Lines.{same_map}
use Rattle.listing.proofs.Takings.{over_more}

-- the bytes from i on, one after another
module _ (f : ℕ → ℕ) (bs : List ℕ) (i n : ℕ) (h : i + n ≤ length bs) where
  part_length : length (take n (drop i bs)) ≡ n
  part_length = length-take-le n (drop i bs) (omega (arith, length-drop i bs))

  pub side_by_side : map f (take n (drop i bs)) ≡ map (λ j. f (get_or bs (i + j) 0)) (range_with_len 0 n)
  side_by_side =
      ext_get_or 0 _ _ (length-map (take n (drop i bs)) f ∙ part_length ∙ sym (length-map-range_with_len (λ j. f (get_or bs (i + j) 0)) 0 n)) at
    where
      at : (j : ℕ) → j < length (map f (take n (drop i bs))) → get_or (map f (take n (drop i bs))) j 0 ≡ get_or (map (λ j. f (get_or bs (i + j) 0)) (range_with_len 0 n)) j 0
      at j p =
          let q : j < n = omega (arith, p, length-map (take n (drop i bs)) f, part_length) in
          get_or-map f (take n (drop i bs)) j 0 0 (omega (arith, q, part_length))
          ∙ (ap f (get_or-take n (drop i bs) j 0 q ∙ get_or-drop i bs j 0)
          ∙ sym (get_or-map-range_with_len (λ j. f (get_or bs (i + j) 0)) 0 n j j 0 q (omega arith)))

one_more : (f : ℕ → ℕ) (n : ℕ) → map f (range_with_len 0 (suc n)) ≡ map f (range_with_len 0 n) ++ (f n ∷ [])
one_more f n =
    let e : suc n ≡ n + 1 = omega arith in
    ap (λ (k : ℕ). map f (range_with_len 0 k)) e ∙ map-range_with_len_more f 0 n n (omega arith)

-- n numbers and w behind them
joined_ranges : (f : ℕ → ℕ) (n w : ℕ) → map f (range_with_len 0 (n + w)) ≡ map f (range_with_len 0 n) ++ map (λ m. f (n + m)) (range_with_len 0 w)
joined_ranges f n zero =
    let e : n + 0 ≡ n = omega arith in
    ap (λ (k : ℕ). map f (range_with_len 0 k)) e ∙ sym (append-nil (map f (range_with_len 0 n)))
joined_ranges f n (suc w) =
    let e : n + suc w ≡ suc (n + w) = omega arith in
    ap (λ (k : ℕ). map f (range_with_len 0 k)) e
    ∙ (one_more f (n + w)
    ∙ (ap (λ (r : List ℕ). r ++ (f (n + w) ∷ [])) (joined_ranges f n w)
    ∙ (append_assoc (map f (range_with_len 0 n)) (map (λ m. f (n + m)) (range_with_len 0 w)) (f (n + w) ∷ [])
    ∙ ap (λ (r : List ℕ). map f (range_with_len 0 n) ++ r) (sym (one_more (λ m. f (n + m)) w)))))

-- n rows of w numbers are n * w numbers
pub rows_joined : (f : ℕ → ℕ) (w n : ℕ) → over 0 n (λ a. map (λ m. f (a * w + m)) (range_with_len 0 w)) ≡ map f (range_with_len 0 (n * w))
rows_joined f w zero = let e : 0 * w ≡ 0 = omega arith in ap (λ (k : ℕ). map f (range_with_len 0 k)) (sym e)
rows_joined f w (suc n) =
    let row : ℕ → List ℕ = λ a. map (λ m. f (a * w + m)) (range_with_len 0 w) in
    let e : suc n ≡ n + 1 = omega arith in
    let q : suc n * w ≡ n * w + w = omega arith in
    ap (λ (k : ℕ). over 0 k row) e
    ∙ (over_more row 0 n n (omega arith)
    ∙ (ap (λ (r : List ℕ). r ++ row n) (rows_joined f w n)
    ∙ (sym (joined_ranges f (n * w) w) ∙ ap (λ (k : ℕ). map f (range_with_len 0 k)) (sym q))))

inner_start : (sh : Shape) (N a m x l i : ℕ) → i ≡ inner_address sh N a m l 0 → l ≡ x → i ≡ inner_address sh N a m x 0
inner_start sh N a m x l i e f = e ∙ ap (λ (o : ℕ). inner_address sh N a m o 0) f

-- the cells of a left state are inside the image
pub inner_room : (s : Slot) (a m x l i : ℕ) → InnerLabel s.layout.shape a → Marks s.layout.shape m → x < s.states
    → i ≡ inner_address s.layout.shape s.layout.most a m l 0 → l ≡ x → i + s.states ≤ length s.bytes.now
inner_room s a m x l i h g p e f =
    let z = address_lt s.layout.shape s.layout.most (at_inner a m x (s.states - 1)) (h, g, omega (arith, s.few), omega (arith, s.few)) in
    let at = inner_start s.layout.shape s.layout.most a m x l i e f in
    omega (arith, z, at, s.long)

module _ (sh : Shape) (N k : ℕ) (bs : List ℕ) (i n : ℕ) (room : i + n ≤ length bs) where
  -- the leaf cells, by label and marks
  pub leaf_cells : i ≡ leaf_address sh N 0 0 → n ≡ leaf_rows sh
      → map (kept k) (take n (drop i bs)) ≡ over 0 sh.leaves (λ a. map (λ m. kept k (get_or bs (leaf_address sh N a m) 0)) (range_with_len 0 (2 ^ sh.tracks)))
  leaf_cells e f =
      side_by_side (kept k) bs i n room
      ∙ (same_map _ _ n 0 (λ j p q. ap (λ (l : ℕ). kept k (get_or bs l 0)) (let z : i + j ≡ 1 + N + j = omega arith in z))
      ∙ (ap (λ (l : ℕ). map (λ j. kept k (get_or bs (1 + N + j) 0)) (range_with_len 0 l)) f
      ∙ sym (rows_joined (λ j. kept k (get_or bs (1 + N + j) 0)) (2 ^ sh.tracks) sh.leaves)))

  -- the inner cells of a label, marks and left state, by right state
  pub inner_cells : (a m x l : ℕ) → i ≡ inner_address sh N a m l 0 → l ≡ x
      → map (kept k) (take n (drop i bs)) ≡ map (λ y. kept k (get_or bs (inner_address sh N a m x y) 0)) (range_with_len 0 n)
  inner_cells a m x l e f =
      let at = inner_start sh N a m x l i e f in
      side_by_side (kept k) bs i n room
      ∙ same_map _ _ n 0 (λ j p q. ap (λ (o : ℕ). kept k (get_or bs o 0)) (let z : i + j ≡ inner_address sh N a m x j = omega arith in z))
