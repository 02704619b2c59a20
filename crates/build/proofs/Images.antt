-- The bytes that are written are the image of the machine's table.
use Rattle.std.proofs.Common.{◌≡◌, ℕ, ◌+◌, ◌-◌, ◌*◌, ◌/◌, ◌%◌, ◌^◌, ◌<◌, ◌≤◌, Bool, cond, ◌&&◌, ltb, ◌⊎◌, List, length, get_or, take, set, sym, refl, ap, ◌∙◌, subst, ap₂, inl, inr, mul_assoc, arith}
use lib.Arith.{digits_div, digits_mod, digits_lt}
use Rattle.std.proofs.lemmas.List.{get_or-take, length-take-le, length-set, get_or-set_same, get_or-set_other}
use Rattle.std.proofs.lemmas.Bool.{lt-ltb, le-ltb, and_from, and_left, and_right}
use Rattle.trees.specs.declared.shape.Shape.{Shape}
use Rattle.trees.specs.Shapes.{LeafLabel, InnerLabel, Marks}
use Rattle.automata.specs.Automata.{Automaton}
use Rattle.automata.specs.Atoms.{one_if}
use Rattle.automata.specs.Numbering.{Table, at_leaf, at_inner}
use Rattle.tables.specs.Tables.{TableOf}
use Rattle.tables.specs.Exploring.{code_at}
use Rattle.tables.specs.Merging.{merged_table}
use Rattle.tables.specs.Images.{width, leaf_address, inner_address, Image, leaf_rows, inner_rows}
use Rattle.tables.proofs.TooManies.{too_many_found}
use Rattle.tables.proofs.Merges.{merged_table_of}
use Rattle.tables.proofs.Rounds.{numbered_merged}
use Rattle.build.specs.Discovery.{Ready, Discovered, index_table}
use Rattle.build.specs.Refinement.{class_at, Indexed, Classed}
use Rattle.build.specs.Imaging.{Firsts, Filled, final_byte, leaf_byte, inner_byte, of_states, source_at, Built}
use Rattle.slots.specs.declared.layout.Layout.{Layout}
use Rattle.tables.proofs.Questions.{address_lt}
use borrow.Rule.Slice.PartMut.{put_mid, same_len_mid}
use Rattle.build.proofs.Fills.{lent_part, part_reads, part_long, lent_filled, filled_at, past_finals}
use Rattle.build.proofs.Refinements.{discovered_indexed}
use Rattle.build.proofs.Turns.{row_is, row_label, row_marks}

-- the three digits of an inner cell
module _ (N r x y : ℕ) (hx : x < N) (hy : y < N) where
  as_two : r * (N * N) + x * N + y ≡ (r * N + x) * N + y
  as_two = omega arith

  high_digit : (r * (N * N) + x * N + y) / (N * N) ≡ r
  high_digit =
      let e : r * (N * N) + x * N + y ≡ r * (N * N) + (x * N + y) = omega arith in
      ap (λ (j : ℕ). j / (N * N)) e ∙ digits_div r (digits_lt hx hy)

  middle_digit : (r * (N * N) + x * N + y) / N % N ≡ x
  middle_digit = ap (λ (j : ℕ). j / N % N) as_two ∙ (ap (λ (j : ℕ). j % N) (digits_div (r * N + x) hy) ∙ digits_mod r hx)

  low_digit : (r * (N * N) + x * N + y) % N ≡ y
  low_digit = ap (λ (j : ℕ). j % N) as_two ∙ digits_mod (r * N + x) hy

-- the inner cells of a table stay where the bytes behind the leaf cells stay
kept_indexed : (l : Layout) (n : ℕ) (xs ys : List ℕ) → Indexed l n xs → length ys ≡ length xs
    → ((j : ℕ) → 1 + l.most + leaf_rows l.shape ≤ j → get_or ys j 0 ≡ get_or xs j 0) → Indexed l n ys
kept_indexed l n xs ys ix len same = record {
  room = ix.room;
  lent = omega (arith, ix.lent, len);
  inside = λ a m x y ha hm hx hy.
      subst (λ (v : ℕ). v < n) (sym (same (inner_address l.shape l.most a m x y) (omega arith))) (ix.inside a m x y ha hm hx hy);
}

module _ (M : Automaton) (l : Layout) (lc lb : ℕ) (codes cells cls firsts : List ℕ) (n k : ℕ)
    (ready : Ready M l lc lb) (d : Discovered M l.most n codes cells) (cl : Classed M codes cls n k) (fi : Firsts cls n k firsts) where
  abbrev N : ℕ
  N = l.most

  abbrev sh : Shape
  sh = l.shape

  abbrev W : ℕ
  W = 2 ^ l.shape.tracks

  abbrev first : ℕ → ℕ
  first s = get_or firsts s 0

  abbrev T : Table
  T = merged_table M (code_at codes) (index_table M l.most n codes cells) k (class_at cls) (λ s. get_or firsts s 0)

  table_right : TableOf M T
  table_right =
      merged_table_of M (code_at codes) (index_table M l.most n codes cells) d.all k (class_at cls) first
      (numbered_merged M (code_at codes) (index_table M l.most n codes cells) (class_at cls) first k cl (λ s h. (fi.within s h, fi.is s h, λ x i. fi.before s x h i)))

  leaf_index : (row : ℕ) → row < leaf_rows l.shape → get_or cells (1 + l.most + row) 0 < n
  leaf_index row h =
      let h' : row < leaf_rows M.shape = subst (λ (s : Shape). row < leaf_rows s) ready.shape h in
      subst (λ (i : ℕ). get_or cells (1 + l.most + i) 0 < n) (row_is M.shape row (row / 2 ^ M.shape.tracks) (row % 2 ^ M.shape.tracks) refl refl)
      (d.all.inside (at_leaf (row / 2 ^ M.shape.tracks) (row % 2 ^ M.shape.tracks))
      (row_label M.shape row (row / 2 ^ M.shape.tracks) (row % 2 ^ M.shape.tracks) refl refl M.shape.leaves h', row_marks M.shape row (row / 2 ^ M.shape.tracks) (row % 2 ^ M.shape.tracks) refl refl))

  module _ (c2 c3 c4 : List ℕ) (len : lb ≤ length c4)
      (f2 : Filled 1 l.most (final_byte M codes firsts k) (set cells 0 k) c2)
      (f3 : Filled (1 + l.most) (leaf_rows l.shape) (leaf_byte l c2 cls) c2 c3)
      (f4 : Filled (1 + l.most + leaf_rows l.shape) (inner_rows l.shape * (l.most * l.most)) (inner_byte l k c3 cls firsts) c3 c4) (some : 0 < length cells) where
    old2 : (j : ℕ) → 1 + l.most ≤ j → get_or c2 j 0 ≡ get_or cells j 0
    old2 j h = f2.outside j (inr h) ∙ get_or-set_other cells 0 j k 0 (λ z. omega (arith, z, h))

    old3 : (j : ℕ) → 1 + l.most + leaf_rows l.shape ≤ j → get_or c3 j 0 ≡ get_or cells j 0
    old3 j h = f3.outside j (inr h) ∙ old2 j (omega (arith, h))

    at_head : get_or c4 0 0 ≡ k
    at_head = f4.outside 0 (inl (omega arith)) ∙ (f3.outside 0 (inl (omega arith)) ∙ (f2.outside 0 (inl (omega arith)) ∙ get_or-set_same cells 0 k 0 some))

    at_final : (s : ℕ) → s < l.most → get_or c4 (1 + s) 0 ≡ final_byte M codes firsts k s
    at_final s h = f4.outside (1 + s) (inl (omega arith)) ∙ (f3.outside (1 + s) (inl (omega arith)) ∙ f2.inside s h)

    at_leaf_cell : (a m : ℕ) → LeafLabel sh a → Marks sh m → get_or c4 (leaf_address sh N a m) 0 ≡ T.leaf_cell a m
    at_leaf_cell a m ha hm =
        let low : a * 2 ^ l.shape.tracks + m < leaf_rows l.shape = digits_lt ha hm in
        f4.outside (leaf_address sh N a m) (inl (omega (arith, low))) ∙ (f3.inside (a * 2 ^ l.shape.tracks + m) low
        ∙ ap (class_at cls) (old2 (1 + l.most + (a * 2 ^ l.shape.tracks + m)) (omega arith) ∙ ap (λ (s : Shape). get_or cells (leaf_address s N a m) 0) ready.shape))

    module _ (a m x y : ℕ) (ha : InnerLabel sh a) (hm : Marks sh m) (hx : x < l.most) (hy : y < l.most) where
      abbrev r : ℕ
      r = (a - l.shape.leaves) * 2 ^ l.shape.tracks + m

      abbrev j : ℕ
      j = r * (l.most * l.most) + x * l.most + y

      j_low : j < inner_rows l.shape * (l.most * l.most)
      j_low =
          let z = address_lt l.shape l.most (at_inner a m x y) (ha, hm, hx, hy) in
          omega (arith, z, mul_assoc (inner_rows l.shape) l.most l.most)

      at_inner_cell : get_or c4 (inner_address sh N a m x y) 0 ≡ inner_byte l k c3 cls firsts j
      at_inner_cell = f4.inside j j_low

      of_is : of_states l.most k j ≡ (ltb x k && ltb y k)
      of_is = ap₂ (λ (u v : ℕ). ltb u k && ltb v k) (middle_digit N r x y hx hy) (low_digit N r x y hx hy)

      label_again : l.shape.leaves + r / 2 ^ l.shape.tracks ≡ a
      label_again = ap (λ (b : ℕ). l.shape.leaves + b) (digits_div (a - l.shape.leaves) hm) ∙ omega (arith, ha)

      source_is : source_at l firsts j ≡ inner_address M.shape N a m (first x) (first y)
      source_is =
          ap (λ (q : ℕ). inner_address sh N (l.shape.leaves + q / W) (q % W) (first (j / N % N)) (first (j % N))) (high_digit N r x y hx hy)
          ∙ (ap₂ (λ (b c : ℕ). inner_address sh N b c (first (j / N % N)) (first (j % N))) label_again (digits_mod (a - l.shape.leaves) hm)
          ∙ (ap₂ (λ (u v : ℕ). inner_address sh N a m (first u) (first v)) (middle_digit N r x y hx hy) (low_digit N r x y hx hy)
          ∙ ap (λ (s : Shape). inner_address s N a m (first x) (first y)) ready.shape))

      at_used : x < k → y < k → get_or c4 (inner_address sh N a m x y) 0 ≡ T.inner_cell a m x y
      at_used kx ky =
          at_inner_cell
          ∙ (ap (λ (b : Bool). cond b (class_at cls (get_or c3 (source_at l firsts j) 0)) 0) (of_is ∙ and_from (ltb x k) (ltb y k) (lt-ltb x k kx) (lt-ltb y k ky))
          ∙ ap (class_at cls) (old3 (source_at l firsts j) (omega arith) ∙ ap (λ (i : ℕ). get_or cells i 0) source_is))

      at_unused : (k ≤ x) ⊎ (k ≤ y) → get_or c4 (inner_address sh N a m x y) 0 ≡ 0
      at_unused h =
          at_inner_cell
          ∙ ap (λ (b : Bool). cond b (class_at cls (get_or c3 (source_at l firsts j) 0)) 0)
          (of_is ∙ elim h [ inl u ↦ and_left (ltb x k) (ltb y k) (le-ltb x k u) | inr u ↦ and_right (ltb x k) (ltb y k) (le-ltb y k u) ])

    few : k ≤ l.most
    few = omega (arith, cl.few, d.room)

    wide : width l.shape l.most ≤ length c4
    wide = omega (arith, len, ready.cells_lent)

    read : (i : ℕ) → i < width l.shape l.most → get_or (take (width l.shape l.most) c4) i 0 ≡ get_or c4 i 0
    read i h = get_or-take (width l.shape l.most) c4 i 0 h

    image : Image l.shape l.most T (take (width l.shape l.most) c4)
    image = record {
      few = few;
      long = length-take-le (width l.shape l.most) c4 wide;
      states = read 0 (omega arith) ∙ at_head;
      final = λ s h. read (1 + s) (omega (arith, h, few)) ∙ (at_final s (omega (arith, h, few)) ∙ ap (λ (b : Bool). one_if (b && M.final (code_at codes (first s)))) (lt-ltb s k h));
      unused_final = λ s h i. read (1 + s) (omega (arith, i)) ∙ (at_final s i ∙ ap (λ (b : Bool). one_if (b && M.final (code_at codes (first s)))) (le-ltb s k h));
      leaf_cell = λ a m ha hm. read (leaf_address sh N a m) (address_lt sh N (at_leaf a m) (ha, hm)) ∙ at_leaf_cell a m ha hm;
      inner_cell = λ a m x y ha hm hx hy.
          let ux : x < l.most = omega (arith, hx, few) in
          let uy : y < l.most = omega (arith, hy, few) in
          read (inner_address sh N a m x y) (address_lt sh N (at_inner a m x y) (ha, hm, ux, uy)) ∙ at_used a m x y ha hm ux uy hx hy;
      unused_inner = λ a m x y ha hm ux uy h. read (inner_address sh N a m x y) (address_lt sh N (at_inner a m x y) (ha, hm, ux, uy)) ∙ at_unused a m x y ha hm ux uy h;
    }

    built : Built M l.most k c4
    built = record {
      table = T;
      right = table_right;
      states = refl;
      enough = λ many. omega (arith, d.room, too_many_found M (code_at codes) (index_table M l.most n codes cells) d.all l.most many);
      image = subst (λ (s : Shape). Image s l.most T (take (width s l.most) c4)) ready.shape image;
    }

  -- the parts as they are written: the finals, the leaf cells, the inner cells
  module _ (finals : List ℕ) (lent : lb ≤ length cells) (long2 : length finals ≡ length (lent_part 1 (1 + l.most) (set cells 0 k)))
      (is2 : (s : ℕ) → s < length (lent_part 1 (1 + l.most) (set cells 0 k)) → get_or finals s 0 ≡ final_byte M codes firsts k s) where
    abbrev with_finals : List ℕ
    with_finals = put_mid 1 (1 + l.most - 1) (set cells 0 k) finals

    finals_filled : Filled 1 l.most (final_byte M codes firsts k) (set cells 0 k) with_finals
    finals_filled =
        lent_filled 1 (1 + l.most) l.most (final_byte M codes firsts k) (set cells 0 k) finals (omega arith) (omega (arith, length-set cells 0 k, ready.cells_lent, lent)) long2 is2

    finals_long : length with_finals ≡ length cells
    finals_long = same_len_mid 1 (1 + l.most - 1) (set cells 0 k) finals long2 ∙ length-set cells 0 k

    past : (j : ℕ) → 1 + l.most ≤ j → get_or with_finals j 0 ≡ get_or cells j 0
    past j h = past_finals l.most k (final_byte M codes firsts k) cells with_finals finals_filled j h

    module _ (rows : ℕ) (er : rows ≡ leaf_rows l.shape) where
      abbrev old_leaves : List ℕ
      old_leaves = lent_part (1 + l.most) (1 + l.most + rows) with_finals

      room : 1 + l.most + rows ≤ length with_finals
      room = omega (arith, er, finals_long, ready.cells_lent, lent)

      pub leaves_indexed : (row : ℕ) → row < length old_leaves → get_or old_leaves row 0 < n
      leaves_indexed row h =
          let low : row < rows = omega (arith, h, part_long (1 + l.most) (1 + l.most + rows) rows with_finals refl room) in
          omega (arith, part_reads (1 + l.most) (1 + l.most + rows) row with_finals (omega arith), past (1 + l.most + row) (omega arith), leaf_index row (omega (arith, low, er)))

      module _ (leaves : List ℕ) (long3 : length leaves ≡ length old_leaves)
          (is3 : (row : ℕ) → row < length old_leaves → get_or leaves row 0 ≡ class_at cls (get_or old_leaves row 0)) where
        abbrev with_leaves : List ℕ
        with_leaves = put_mid (1 + l.most) (1 + l.most + rows - (1 + l.most)) with_finals leaves

        leaves_filled : Filled (1 + l.most) (leaf_rows l.shape) (leaf_byte l with_finals cls) with_finals with_leaves
        leaves_filled =
            filled_at er (lent_filled (1 + l.most) (1 + l.most + rows) rows (leaf_byte l with_finals cls) with_finals leaves refl room long3
            (λ row h. is3 row h ∙ ap (class_at cls) (part_reads (1 + l.most) (1 + l.most + rows) row with_finals (omega (arith, h, part_long (1 + l.most) (1 + l.most + rows) rows with_finals refl room)))))

        leaves_long : length with_leaves ≡ length cells
        leaves_long = same_len_mid (1 + l.most) (1 + l.most + rows - (1 + l.most)) with_finals leaves long3 ∙ finals_long

        pub inners_indexed : Indexed l n with_leaves
        inners_indexed =
            kept_indexed l n cells with_leaves (discovered_indexed M l lc lb codes cells n ready d lent) leaves_long
            (λ j h. leaves_filled.outside j (inr h) ∙ past j (omega (arith, h)))

        pub table_built : (c4 : List ℕ) → length c4 ≡ length with_leaves
            → Filled (1 + l.most + leaf_rows l.shape) (inner_rows l.shape * (l.most * l.most)) (inner_byte l k with_leaves cls firsts) with_leaves c4 → Built M l.most k c4
        table_built c4 long4 f4 =
            built with_finals with_leaves c4 (omega (arith, lent, long4, leaves_long)) finals_filled leaves_filled f4 (omega (arith, lent, ready.cells_lent))
