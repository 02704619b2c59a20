-- How long the text of a table is at most.
use Rattle.std.proofs.Common.{◌≡◌, ℕ, zero, suc, ◌+◌, ◌*◌, ◌/◌, ◌%◌, ◌^◌, ◌<◌, ◌≤◌, Bool, false, eqb, List, [], ◌∷◌, ◌++◌, map, length, decimal, arith, lit≤, length-append, pow_mono}
use Rattle.std.specs.List.{range_with_len}
use Rattle.std.specs.Fmt.{digits, digits_onto, digit_glyph}
use Rattle.std.proofs.lemmas.List.FromFn.{length-map-range_with_len}
use Rattle.std.proofs.lemmas.Bool.{cond_both}
use Rattle.trees.specs.declared.shape.Shape.{Shape}
use Rattle.trees.specs.Shapes.{Limited}
use Rattle.trees.proofs.Limits.{bounds}
use Rattle.automata.specs.Atoms.{one_if}
use Rattle.automata.specs.Numbering.{Table}
use Rattle.tables.specs.Texts.{fields, line, over, table_text}
use Rattle.listing.specs.Rows.{head_line, final_line, leaf_line, inner_line, lefts_text, marks_text, inners_text}

spelled_short : (k base : ℕ) (upper : Bool) (n : ℕ) (acc : List ℕ) → length (digits_onto k base upper n acc) ≤ k + length acc
spelled_short zero base upper n acc = omega arith
spelled_short (suc k) base upper n acc =
    let d : ℕ = digit_glyph upper (n % base) in
    cond_both (eqb (n / base) 0) (d ∷ acc) (digits_onto k base upper (n / base) (d ∷ acc)) (λ (ds : List ℕ). length ds ≤ suc k + length acc)
    (λ _. omega arith) (λ _. let z = spelled_short k base upper (n / base) (d ∷ acc) in omega (arith, z))

decimal_short : (n : ℕ) → length (decimal n) ≤ 64
unfolding digits
decimal_short n = spelled_short 64 10 false n []

fields_short : (ns : List ℕ) → length (fields ns) ≤ 65 * length ns
fields_short [] = omega arith
fields_short (n ∷ ns) = omega (arith, length-append (decimal n) (fields ns), decimal_short n, fields_short ns)

line_short : (letter n : ℕ) (ns : List ℕ) → length ns ≤ n → length (line letter ns) ≤ 65 * n + 2
line_short letter n ns h = omega (arith, length-append (fields ns) (10 ∷ []), fields_short ns)

over_short : (f : ℕ → List ℕ) (n a most : ℕ) → ((j : ℕ) → length (f j) ≤ most) → length (over a n f) ≤ n * most
over_short f zero a most h = omega arith
over_short f (suc n) a most h = omega (arith, length-append (f a) (over (a + 1) n f), h a, over_short f n (a + 1) most h)

four_short : (a b c d : List ℕ) → length (a ++ (b ++ (c ++ d))) ≡ length a + (length b + (length c + length d))
four_short a b c d = omega (arith, length-append a (b ++ (c ++ d)), length-append b (c ++ d), length-append c d)

module _ (sh : Shape) (T : Table) (ok : Limited sh) (few : T.states ≤ 32) where
  marks_few : 2 ^ sh.tracks ≤ 64
  marks_few = let z : 2 ^ sh.tracks ≤ 2 ^ 6 = pow_mono (bounds sh ok).tracks.1 in z

  head_short : length (head_line sh T) ≤ 65 * 4 + 2
  head_short = line_short 84 4 (sh.leaves ∷ sh.inners ∷ sh.tracks ∷ T.states ∷ []) (lit≤ tt)

  final_short : length (final_line T) ≤ 65 * 32 + 2
  final_short =
      line_short 65 32 (map (λ s. one_if (T.final s)) (range_with_len 0 T.states)) (omega (arith, length-map-range_with_len (λ s. one_if (T.final s)) 0 T.states))

  leaf_short : length (leaf_line sh T) ≤ 65 * 512 + 2
  leaf_short =
      let z = over_short (λ a. map (T.leaf_cell a) (range_with_len 0 (2 ^ sh.tracks))) sh.leaves 0 64
      (λ a. omega (arith, length-map-range_with_len (T.leaf_cell a) 0 (2 ^ sh.tracks), marks_few)) in
      line_short 76 512 (over 0 sh.leaves (λ a. map (T.leaf_cell a) (range_with_len 0 (2 ^ sh.tracks)))) (omega (arith, z, (bounds sh ok).leaves.1))

  inner_short : (a m x : ℕ) → length (inner_line T a m x) ≤ 65 * 35 + 2
  inner_short a m x =
      line_short 73 35 (a ∷ m ∷ x ∷ map (T.inner_cell a m x) (range_with_len 0 T.states)) (omega (arith, length-map-range_with_len (T.inner_cell a m x) 0 T.states))

  lefts_short : (a m : ℕ) → length (lefts_text T a m) ≤ 32 * 2277
  lefts_short a m = let z = over_short (inner_line T a m) T.states 0 2277 (inner_short a m) in omega (arith, z)

  marks_short : (a : ℕ) → length (marks_text sh T a) ≤ 64 * 72864
  marks_short a = let z = over_short (lefts_text T a) (2 ^ sh.tracks) 0 72864 (lefts_short a) in omega (arith, z, marks_few)

  inners_short : length (inners_text sh T) ≤ 4 * 4663296
  inners_short = let z = over_short (marks_text sh T) sh.inners sh.leaves 4663296 marks_short in omega (arith, z, (bounds sh ok).inners.1)

  pub text_short : length (table_text sh T) < 2 ^ 64
  text_short =
      let z : length (table_text sh T) ≡ length (head_line sh T) + (length (final_line T) + (length (leaf_line sh T) + length (inners_text sh T)))
      = four_short (head_line sh T) (final_line T) (leaf_line sh T) (inners_text sh T) in
      below _ _ _ _ _ z head_short final_short leaf_short inners_short
    where
      below : (n a b c d : ℕ) → n ≡ a + (b + (c + d)) → a ≤ 262 → b ≤ 2082 → c ≤ 33282 → d ≤ 18653184 → n < 2 ^ 64
      below n a b c d e p q r s = omega arith
