-- The bytes of a slot, read as a table with so many states.
-- Words:
--   cell k bs i        the byte at i, 0 where it is no state below k
--   read_table l k bs  the table that the bytes are, with k states
--   read s             the table that a slot's bytes are
--   text s             its text
--   head_line, final_line, leaf_line, inner_line    the lines T, A, L and I of a table
--   lefts_text, marks_text, inners_text             the lines I of a label and marks, of a label, and all
use Rattle.std.specs.Prelude.{ℕ, ◌+◌, ◌^◌, List, [], ◌∷◌, map, ◌==◌, slice_index}
use Rattle.std.specs.List.{range_with_len}
use Rattle.trees.specs.declared.shape.Shape.{Shape}
use Rattle.slots.specs.declared.layout.Layout.{Layout}
use Rattle.listing.specs.declared.text.Slot.{Slot}
use Rattle.automata.specs.Atoms.{one_if}
use Rattle.automata.specs.Numbering.{Table}
use Rattle.tables.specs.Images.{kept, leaf_address, inner_address}
use Rattle.tables.specs.Texts.{line, over, table_text}

abbrev pub cell : ℕ → List ℕ → ℕ → ℕ
cell k bs i = kept k (slice_index bs i)

abbrev pub read_table : Layout → ℕ → List ℕ → Table
read_table l k bs = record {
  states = k;
  final = λ s. (slice_index bs (1 + s) == 1);
  leaf_cell = λ a m. cell k bs (leaf_address l.shape l.most a m);
  inner_cell = λ a m x y. cell k bs (inner_address l.shape l.most a m x y);
}

abbrev pub read : Slot → Table
read s = read_table s.layout s.states s.bytes.now

abbrev pub text : Slot → List ℕ
text s = table_text s.layout.shape (read s)

abbrev pub head_line : Shape → Table → List ℕ
head_line sh T = line 84 (sh.leaves ∷ sh.inners ∷ sh.tracks ∷ T.states ∷ [])

abbrev pub final_line : Table → List ℕ
final_line T = line 65 (map (λ s. one_if (T.final s)) (range_with_len 0 T.states))

abbrev pub leaf_line : Shape → Table → List ℕ
leaf_line sh T = line 76 (over 0 sh.leaves (λ a. map (T.leaf_cell a) (range_with_len 0 (2 ^ sh.tracks))))

abbrev pub inner_line : Table → ℕ → ℕ → ℕ → List ℕ
inner_line T a m x = line 73 (a ∷ m ∷ x ∷ map (T.inner_cell a m x) (range_with_len 0 T.states))

abbrev pub lefts_text : Table → ℕ → ℕ → List ℕ
lefts_text T a m = over 0 T.states (inner_line T a m)

abbrev pub marks_text : Shape → Table → ℕ → List ℕ
marks_text sh T a = over 0 (2 ^ sh.tracks) (lefts_text T a)

abbrev pub inners_text : Shape → Table → List ℕ
inners_text sh T = over sh.leaves sh.inners (marks_text sh T)
