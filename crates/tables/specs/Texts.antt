-- A table as text.
-- Words:
--   fields           each number in decimal behind a comma
--   line letter ns   the letter, the fields, then byte 10
--   joined           texts one after another
--   over a n f       f at each of the n numbers from a on, one text after another
--   table_text       line T: leaf labels, inner labels, tracks, states; line A: 1 or 0 for each state, final or not; line L: the leaf cells by label, then marks;
--                    a line I for each inner label, marks and left state: these three, then the cell for each right state
--   Small sh T       the numbers of T are below 2 ^ 64
use Rattle.std.specs.Prelude.{ℕ, ◌^◌, ◌<◌, List, [], ◌∷◌, ◌++◌, map, decimal}
use Rattle.std.specs.List.{range_with_len}
use Rattle.trees.specs.declared.shape.Shape.{Shape}
use Rattle.automata.specs.Atoms.{one_if}
use Rattle.automata.specs.Numbering.{Table, Question, answer, Over}

abbrev pub fields : List ℕ → List ℕ
fields [] = []
fields (n ∷ ns) = 44 ∷ (decimal n ++ fields ns)

abbrev pub line : ℕ → List ℕ → List ℕ
line letter ns = letter ∷ (fields ns ++ (10 ∷ []))

abbrev pub joined : List (List ℕ) → List ℕ
joined [] = []
joined (l ∷ ls) = l ++ joined ls

abbrev pub over : ℕ → ℕ → (ℕ → List ℕ) → List ℕ
over a n f = joined (map f (range_with_len a n))

abbrev pub table_text : Shape → Table → List ℕ
table_text sh T =
    line 84 (sh.leaves ∷ sh.inners ∷ sh.tracks ∷ T.states ∷ [])
    ++ (line 65 (map (λ s. one_if (T.final s)) (range_with_len 0 T.states))
    ++ (line 76 (over 0 sh.leaves (λ a. map (T.leaf_cell a) (range_with_len 0 (2 ^ sh.tracks))))
    ++ over sh.leaves sh.inners (λ a. over 0 (2 ^ sh.tracks) (λ m. over 0 T.states (λ x.
    line 73 (a ∷ m ∷ x ∷ map (T.inner_cell a m x) (range_with_len 0 T.states)))))))

pub record Small (sh : Shape) (T : Table) : Type 0 where
  pub states : T.states < 2 ^ 64
  pub cells : (q : Question) → Over sh T.states q → answer T q < 2 ^ 64
