-- One table worked out: "exactly one node is in track 0".
-- Words:
--   shape_111        1 leaf label, 1 inner label, 1 track
--   sing_table       the table of the atom: 0 for no node so far, 1 for one, 2 for more
--   TableExamples    its text, and its bytes in a slot for 4 states
use Rattle.std.specs.Prelude.{◌≡◌, ℕ, List, [], ◌∷◌, ◌++◌, codes}
use Rattle.trees.specs.declared.shape.Shape.{Shape}
use Rattle.automata.specs.Atoms.{sing_automaton}
use Rattle.automata.specs.Numbering.{Table, own_table}
use Rattle.tables.specs.Tables.{TableOf}
use Rattle.tables.specs.Images.{Image}
use Rattle.tables.specs.Texts.{table_text}

abbrev pub shape_111 : Shape
shape_111 = record { leaves = 1; inners = 1; tracks = 1 }

abbrev pub sing_table : Table
sing_table = own_table (sing_automaton shape_111 0)

abbrev pub sing_text : List ℕ
sing_text =
    codes "T,1,1,1,3\n" ++ (codes "A,0,1,0\n" ++ (codes "L,0,1\n"
    ++ (codes "I,1,0,0,0,1,2\n" ++ (codes "I,1,0,1,1,2,2\n" ++ (codes "I,1,0,2,2,2,2\n"
    ++ (codes "I,1,1,0,1,2,2\n" ++ (codes "I,1,1,1,2,2,2\n" ++ codes "I,1,1,2,2,2,2\n")))))))

abbrev pub sing_bytes : List ℕ
sing_bytes =
    3 ∷ (0 ∷ 1 ∷ 0 ∷ 0 ∷ []) ++ ((0 ∷ 1 ∷ [])
    ++ ((0 ∷ 1 ∷ 2 ∷ 0 ∷ []) ++ ((1 ∷ 2 ∷ 2 ∷ 0 ∷ []) ++ ((2 ∷ 2 ∷ 2 ∷ 0 ∷ []) ++ ((0 ∷ 0 ∷ 0 ∷ 0 ∷ [])
    ++ ((1 ∷ 2 ∷ 2 ∷ 0 ∷ []) ++ ((2 ∷ 2 ∷ 2 ∷ 0 ∷ []) ++ ((2 ∷ 2 ∷ 2 ∷ 0 ∷ []) ++ (0 ∷ 0 ∷ 0 ∷ 0 ∷ [])))))))))

pub record TableExamples : Type 0 where
  pub table : TableOf (sing_automaton shape_111 0) sing_table
  pub text : table_text shape_111 sing_table ≡ sing_text
  pub bytes : Image shape_111 4 sing_table sing_bytes
