-- The texts of two tables are equal exactly if the shapes and the tables are the same.
use Rattle.std.proofs.Common.{◌≡◌, ℕ, ◌+◌, ◌^◌, ◌<◌, ◌≤◌, Bool, true, false, ◌↔◌, List, [], ◌∷◌, ◌++◌, map, sym, refl, ap, ◌∙◌, subst, ap₂, arith, lit<, pow_mono}
use mathlib.Core.List.{head-eq_of_cons-eq, tail-eq_of_cons-eq}
use Rattle.std.specs.List.{range_with_len}
use Rattle.trees.specs.declared.shape.Shape.{Shape}
use Rattle.trees.specs.Shapes.{Limited, InnerLabel, Marks}
use Rattle.trees.proofs.Limits.{bounds}
use Rattle.automata.specs.Automata.{Automaton, Lawful}
use Rattle.automata.specs.Atoms.{one_if}
use Rattle.automata.specs.Numbering.{Table, Question, at_leaf, at_inner, answer, Over}
use Rattle.tables.specs.Tables.{SameTable, TableOf, AcceptSame}
use Rattle.tables.specs.Texts.{line, over, table_text, Small}
use Rattle.tables.proofs.TableRuns.{closed}
use Rattle.tables.proofs.TableStates.{states_few}
use Rattle.tables.proofs.Canon.{same_table, accept_same}
use Rattle.tables.proofs.Flags.{one_if_inj}
use Rattle.tables.proofs.Lines.{told, Fit, tells_line, tells_over, tells_map, fit_map, fit_over, same_map, same_over}

abbrev leaf_numbers : Shape → Table → List ℕ
leaf_numbers sh T = over 0 sh.leaves (λ a. map (T.leaf_cell a) (range_with_len 0 (2 ^ sh.tracks)))

abbrev inner_numbers : Table → ℕ → ℕ → ℕ → ℕ → List ℕ
inner_numbers T n a m x = a ∷ m ∷ x ∷ map (T.inner_cell a m x) (range_with_len 0 n)

abbrev inner_lines : Shape → ℕ → Table → List ℕ
inner_lines sh n T = over sh.leaves sh.inners (λ a. over 0 (2 ^ sh.tracks) (λ m. over 0 n (λ x. line 73 (inner_numbers T n a m x))))

-- the text behind its first line, over n states
abbrev behind : Shape → ℕ → Table → List ℕ
behind sh n T = line 65 (map (λ s. one_if (T.final s)) (range_with_len 0 n)) ++ (line 76 (leaf_numbers sh T) ++ inner_lines sh n T)

one_if_fits : (b : Bool) → one_if b < 2 ^ 64
one_if_fits true = omega arith
one_if_fits false = omega arith

module _ (sh : Shape) (ok : Limited sh) where
  first_fit : (n : ℕ) → n < 2 ^ 64 → Fit (sh.leaves ∷ sh.inners ∷ sh.tracks ∷ n ∷ [])
  first_fit n h = let b = bounds sh ok in (omega (arith, b.leaves.1), (omega (arith, b.inners.1), (omega (arith, b.tracks.1), (h, tt))))

  marks_few : 2 ^ sh.tracks ≤ 64
  marks_few = let z : 2 ^ sh.tracks ≤ 2 ^ 6 = pow_mono (bounds sh ok).tracks.1 in z

  leaf_fit : (T : Table) → Small sh T → Fit (leaf_numbers sh T)
  leaf_fit T s = fit_over _ sh.leaves 0 (λ a p q. fit_map (T.leaf_cell a) (2 ^ sh.tracks) 0 (λ m u v. s.cells (at_leaf a m) (omega arith, omega arith)))

  inner_fit : (T : Table) → Small sh T → (n a m x : ℕ) → n ≡ T.states → InnerLabel sh a → Marks sh m → x < n → Fit (inner_numbers T n a m x)
  inner_fit T s n a m x e h k p =
      let l = bounds sh ok in
      let b : a < 2 ^ 64 = omega (arith, l.leaves.1, l.inners.1) in
      let c : m < 2 ^ 64 = omega (arith, marks_few) in
      let d : x < 2 ^ 64 = omega (arith, s.states) in
      (b, (c, (d, fit_map (T.inner_cell a m x) n 0 (λ y u v. s.cells (at_inner a m x y) (h, k, omega arith, omega arith)))))

  behind_inj : (A B : Table) → Small sh A → Small sh B → (n : ℕ) → n ≡ A.states → n ≡ B.states → behind sh n A ≡ behind sh n B
      → ((s : ℕ) → s < n → A.final s ≡ B.final s) × ((q : Question) → Over sh n q → answer A q ≡ answer B q)
  behind_inj A B sA sB n eA eB e = ((λ s h. one_if_inj (A.final s) (B.final s) (finals s (omega arith) (omega arith))), cells)
    where
      line_A : (map (λ s. one_if (A.final s)) (range_with_len 0 n) ≡ map (λ s. one_if (B.final s)) (range_with_len 0 n))
          × (line 76 (leaf_numbers sh A) ++ inner_lines sh n A ≡ line 76 (leaf_numbers sh B) ++ inner_lines sh n B)
      line_A = tells_line 65 (map (λ s. one_if (A.final s)) (range_with_len 0 n)) (map (λ s. one_if (B.final s)) (range_with_len 0 n))
          (fit_map _ n 0 (λ j p q. one_if_fits (A.final j))) (fit_map _ n 0 (λ j p q. one_if_fits (B.final j)))
          (line 76 (leaf_numbers sh A) ++ inner_lines sh n A) (line 76 (leaf_numbers sh B) ++ inner_lines sh n B) e

      finals : (j : ℕ) → 0 ≤ j → j < 0 + n → one_if (A.final j) ≡ one_if (B.final j)
      finals = told _ _ _ (tells_map (λ s. one_if (A.final s)) (λ s. one_if (B.final s)) n 0) line_A.0

      line_L : (leaf_numbers sh A ≡ leaf_numbers sh B) × (inner_lines sh n A ≡ inner_lines sh n B)
      line_L = tells_line 76 (leaf_numbers sh A) (leaf_numbers sh B) (leaf_fit A sA) (leaf_fit B sB) (inner_lines sh n A) (inner_lines sh n B) line_A.1

      leaves : (a : ℕ) → 0 ≤ a → a < 0 + sh.leaves → (m : ℕ) → 0 ≤ m → m < 0 + 2 ^ sh.tracks → A.leaf_cell a m ≡ B.leaf_cell a m
      leaves = told _ _ _ (tells_over _ _ _ sh.leaves 0 (λ a p q. tells_map (A.leaf_cell a) (B.leaf_cell a) (2 ^ sh.tracks) 0)) line_L.0

      lines_I : (a : ℕ) → sh.leaves ≤ a → a < sh.leaves + sh.inners → (m : ℕ) → 0 ≤ m → m < 0 + 2 ^ sh.tracks → (x : ℕ) → 0 ≤ x → x < 0 + n
          → inner_numbers A n a m x ≡ inner_numbers B n a m x
      lines_I = told _ _ _ (tells_over _ _ _ sh.inners sh.leaves (λ a p q. tells_over _ _ _ (2 ^ sh.tracks) 0 (λ m u v. tells_over _ _ _ n 0 (λ x k l.
          tells_line 73 (inner_numbers A n a m x) (inner_numbers B n a m x)
          (inner_fit A sA n a m x eA (p, q) (omega arith) (omega arith)) (inner_fit B sB n a m x eB (p, q) (omega arith) (omega arith)))))) line_L.1

      cells : (q : Question) → Over sh n q → answer A q ≡ answer B q
      cells (at_leaf a m) o = leaves a (omega arith) (omega arith) m (omega arith) (omega arith)
      cells (at_inner a m x y) o =
          let w = lines_I a o.0.0 o.0.1 m (omega arith) (omega arith) x (omega arith) (omega arith) in
          told _ _ _ (tells_map (A.inner_cell a m x) (B.inner_cell a m x) n 0)
          (tail-eq_of_cons-eq (tail-eq_of_cons-eq (tail-eq_of_cons-eq w))) y (omega arith) (omega arith)

  -- what the lines behind the first say, once that one has told shape and states
  behind_same : (A B : Table) → Small sh A → Small sh B → A.states ≡ B.states → behind sh A.states A ≡ behind sh B.states B → SameTable sh A B
  behind_same A B sA sB z e =
      let r = behind_inj A B sA sB A.states refl z (e ∙ ap (λ (n : ℕ). behind sh n B) (sym z)) in
      record { states = z; final = r.0; cells = r.1 }

pub text_same : (sh : Shape) (A B : Table) → SameTable sh A B → table_text sh A ≡ table_text sh B
text_same sh A B same =
    ap (λ (x : List ℕ). line 84 (sh.leaves ∷ sh.inners ∷ sh.tracks ∷ A.states ∷ []) ++ x) behind_equal
    ∙ ap (λ (n : ℕ). line 84 (sh.leaves ∷ sh.inners ∷ sh.tracks ∷ n ∷ []) ++ behind sh n B) same.states
  where
    behind_equal : behind sh A.states A ≡ behind sh A.states B
    behind_equal = ap₂ (λ (x y : List ℕ). x ++ y)
        (ap (line 65) (same_map (λ s. one_if (A.final s)) (λ s. one_if (B.final s)) A.states 0 (λ s p q. ap one_if (same.final s (omega arith)))))
        (ap₂ (λ (x y : List ℕ). x ++ y)
        (ap (line 76) (same_over _ _ sh.leaves 0 (λ a p q. same_map (A.leaf_cell a) (B.leaf_cell a) (2 ^ sh.tracks) 0
        (λ m u v. same.cells (at_leaf a m) (omega arith, omega arith)))))
        (same_over _ _ sh.inners sh.leaves (λ a p q. same_over _ _ (2 ^ sh.tracks) 0 (λ m u v. same_over _ _ A.states 0 (λ x k l.
        ap (λ (ys : List ℕ). line 73 (a ∷ m ∷ x ∷ ys)) (same_map (A.inner_cell a m x) (B.inner_cell a m x) A.states 0
        (λ y c d. same.cells (at_inner a m x y) ((p, q), omega arith, omega arith, omega arith))))))))

shape_same : (sh sh' : Shape) → sh.leaves ≡ sh'.leaves → sh.inners ≡ sh'.inners → sh.tracks ≡ sh'.tracks → sh ≡ sh'
shape_same sh sh' p q r = ap₂ (λ (a b : ℕ). shape a b sh.tracks) p q ∙ ap (shape sh'.leaves sh'.inners) r
  where
    shape : ℕ → ℕ → ℕ → Shape
    shape a b c = record { leaves = a; inners = b; tracks = c }

pub text_tells : (sh sh' : Shape) (A B : Table) → Limited sh → Limited sh' → Small sh A → Small sh' B
    → table_text sh A ≡ table_text sh' B → (sh ≡ sh') × SameTable sh A B
text_tells sh sh' A B ok ok' sA sB e = (
  same,
  behind_same sh ok A B sA (subst (λ (s : Shape). Small s B) (sym same) sB) numbers.3
      (w.1 ∙ ap (λ (s : Shape). behind s B.states B) (sym same)),
)
  where
    w : (sh.leaves ∷ sh.inners ∷ sh.tracks ∷ A.states ∷ [] ≡ sh'.leaves ∷ sh'.inners ∷ sh'.tracks ∷ B.states ∷ [])
        × (behind sh A.states A ≡ behind sh' B.states B)
    w = tells_line 84 (sh.leaves ∷ sh.inners ∷ sh.tracks ∷ A.states ∷ []) (sh'.leaves ∷ sh'.inners ∷ sh'.tracks ∷ B.states ∷ [])
        (first_fit sh ok A.states sA.states) (first_fit sh' ok' B.states sB.states) (behind sh A.states A) (behind sh' B.states B) e

    numbers : (sh.leaves ≡ sh'.leaves) × (sh.inners ≡ sh'.inners) × (sh.tracks ≡ sh'.tracks) × (A.states ≡ B.states)
    numbers =
        let b = tail-eq_of_cons-eq w.0 in
        let c = tail-eq_of_cons-eq b in
        (head-eq_of_cons-eq w.0, head-eq_of_cons-eq b, head-eq_of_cons-eq c, head-eq_of_cons-eq (tail-eq_of_cons-eq c))

    same : sh ≡ sh'
    same = shape_same sh sh' numbers.0 numbers.1 numbers.2

pub table_small : (M : Automaton) (T : Table) → Lawful M → TableOf M T → Small M.shape T
table_small M T ok o =
    let few = states_few M T o ok in
    let big : 2 ^ 32 < 2 ^ 64 = lit< tt in
    record { states = omega (arith, ok.count_fits.1); cells = λ q h. let z = closed M T o q h in omega (arith, ok.count_fits.1) }

pub text_iff : (sh sh' : Shape) (A B : Table) → Limited sh → Limited sh' → Small sh A → Small sh' B
    → (table_text sh A ≡ table_text sh' B) ↔ ((sh ≡ sh') × SameTable sh A B)
text_iff sh sh' A B ok ok' sA sB =
    (text_tells sh sh' A B ok ok' sA sB, λ w. text_same sh A B w.1 ∙ ap (λ (s : Shape). table_text s B) w.0)

pub text_canonical : (M M' : Automaton) (A B : Table) → Limited M.shape → M.shape ≡ M'.shape → Lawful M → Lawful M' → TableOf M A → TableOf M' B
    → (table_text M.shape A ≡ table_text M.shape B) ↔ AcceptSame M M'
text_canonical M M' A B fit e ok ok' o o' = (
  (λ z. accept_same M M' A B e o o' (text_tells M.shape M.shape A B fit fit (table_small M A ok o) small z).1),
  λ agrees. text_same M.shape A B (same_table M M' A B e o o' agrees),
)
  where
    small : Small M.shape B
    small = subst (λ (s : Shape). Small s B) (sym e) (table_small M' B ok' o')
