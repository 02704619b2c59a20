-- The theorems of this crate.
-- Words:
--   TablesAccept     a table accepts as its automaton does, and is lawful
--   Canonical        automata accept the same trees exactly if their tables are the same
--   TableOfTable     an automaton has one table, and the table of a table is itself
--   FewestStates     a table's states are all reached and no two alike, and no lawful automaton that accepts the same has fewer codes
--   AtomTables       an atom's automaton is its own table, explored and merged as it stands
--   Exploring        exploring finds the reached codes, or more than N of them
--   Refining         rounds of refining find the classes of alike codes
--   Building         explored and merged codes give the table
--   ImagesHold       the bytes of a table are one list, which gives the table back and answers as the table does
--   SlotsHold        bytes that hold the table of an automaton are canonical
--   TextsTell        the texts of two tables are equal exactly if the tables are the same
use Rattle.std.specs.Prelude.{◌≡◌, ℕ, suc, ◌^◌, ◌<◌, ◌≤◌, true, ◌↔◌, List, [], ◌∷◌, ◌++◌, length}
use Rattle.trees.specs.declared.shape.Shape.{Shape}
use Rattle.trees.specs.Shapes.{Limited}
use Rattle.automata.specs.Automata.{Automaton, Lawful, Alike}
use Rattle.automata.specs.Rules.{Atom, AtomFits}
use Rattle.automata.specs.Atoms.{atom_automaton}
use Rattle.automata.specs.Numbering.{Table, Question, answer, Over, place, own_table, CodesAreStates}
use Rattle.tables.specs.Tables.{SameTable, Closed, table_automaton, TableOf, AcceptSame, TooMany}
use Rattle.tables.specs.Exploring.{code_at, ask, Known, Upto, Explored}
use Rattle.tables.specs.Merging.{Told, Stable, Merged, merged_table}
use Rattle.tables.specs.Rounds.{Agree, Numbering, Coarse}
use Rattle.tables.specs.Images.{Image, bytes_automaton, fits}
use Rattle.tables.specs.Canonical.{TableIn, CanonicalSlot}
use Rattle.tables.specs.Texts.{table_text, Small}

pub record TablesAccept : Type 0 where
  pub accepts : (M : Automaton) (T : Table) → TableOf M T → AcceptSame (table_automaton M.shape T) M
  pub closed : (M : Automaton) (T : Table) → TableOf M T → Closed M.shape T
  pub lawful : (M : Automaton) (T : Table) → TableOf M T → 1 ≤ T.states → T.states ≤ 2 ^ 32 → Lawful (table_automaton M.shape T)
  pub some : (M : Automaton) (T : Table) → TableOf M T → Limited M.shape → 1 ≤ T.states

abbrev pub Canonical : Type 0
Canonical = (M M' : Automaton) (A B : Table) → M.shape ≡ M'.shape → TableOf M A → TableOf M' B → AcceptSame M M' ↔ SameTable M.shape A B

pub record TableOfTable : Type 0 where
  pub one : (M : Automaton) (A B : Table) → TableOf M A → TableOf M B → SameTable M.shape A B
  pub itself : (M : Automaton) (A : Table) → TableOf M A → TableOf (table_automaton M.shape A) A
  pub only : (M : Automaton) (A B : Table) → TableOf M A → TableOf (table_automaton M.shape A) B → SameTable M.shape A B

pub record FewestStates : Type 0 where
  pub states : (M : Automaton) (T : Table) → TableOf M T → CodesAreStates (table_automaton M.shape T)
  pub fewest : (M : Automaton) (T : Table) → TableOf M T → (M' : Automaton) → M.shape ≡ M'.shape → Lawful M' → AcceptSame M M' → T.states ≤ M'.count

pub record AtomTables : Type 0 where
  pub table : (sh : Shape) (A : Atom) → Limited sh → AtomFits sh A → TableOf (atom_automaton sh A) (own_table (atom_automaton sh A))
  pub explored : (sh : Shape) (A : Atom) → Limited sh → AtomFits sh A → Explored (atom_automaton sh A) (λ x. x) (own_table (atom_automaton sh A))
  pub merged : (sh : Shape) (A : Atom) → Limited sh → AtomFits sh A
      → Merged (atom_automaton sh A) (λ x. x) (own_table (atom_automaton sh A)) (atom_automaton sh A).count (λ x. x) (λ x. x)

pub record Exploring : Type 0 where
  pub none : (M : Automaton) → Upto M [] 0
  pub known : (M : Automaton) (cs : List ℕ) (q : Question) → Upto M cs (place M.shape q) → Over M.shape (length cs) q
      → Known cs (length cs) (ask M (code_at cs) q) → Upto M cs (suc (place M.shape q))
  pub new : (M : Automaton) (cs : List ℕ) (q : Question) → Upto M cs (place M.shape q) → Over M.shape (length cs) q
      → ¬ Known cs (length cs) (ask M (code_at cs) q) → Upto M (cs ++ (ask M (code_at cs) q ∷ [])) (suc (place M.shape q))
  pub end : (M : Automaton) (cs : List ℕ) (p : ℕ) → Upto M cs p → (E : Table) → E.states ≡ length cs
      → ((q : Question) → Over M.shape (length cs) q → (answer E q < length cs) × (code_at cs (answer E q) ≡ ask M (code_at cs) q))
      → Explored M (code_at cs) E
  pub many : (M : Automaton) (cs : List ℕ) (p N : ℕ) → Upto M cs p → N < length cs → TooMany M N
  pub full : (M : Automaton) (cs : List ℕ) (q : Question) (N : ℕ) → Upto M cs (place M.shape q) → Over M.shape (length cs) q
      → ¬ Known cs (length cs) (ask M (code_at cs) q) → N ≤ length cs → TooMany M N
  pub few : (M : Automaton) (codes : ℕ → ℕ) (E : Table) → Explored M codes E → (N : ℕ) → E.states ≤ N → ¬ TooMany M N

pub record Refining : Type 0 where
  pub stable : (M : Automaton) (codes : ℕ → ℕ) (E : Table) → Explored M codes E → (class : ℕ → ℕ) → Stable M codes E class
      → (x y : ℕ) → x < E.states → y < E.states → class x ≡ class y → Alike M (codes x) (codes y)
  pub told : (M : Automaton) (x y : ℕ) → Told M x y → ¬ Alike M x y
  pub kept : (M : Automaton) (codes : ℕ → ℕ) (E : Table) → Explored M codes E → (class : ℕ → ℕ) (k : ℕ) → Coarse M codes E class k
      → (f : ℕ → ℕ) (k' : ℕ) → Numbering (Agree M E class) f E.states k' → Coarse M codes E f k' × (k ≤ k')
  pub found : (M : Automaton) (codes : ℕ → ℕ) (E : Table) → Explored M codes E → (class : ℕ → ℕ) (k : ℕ) → Coarse M codes E class k
      → (f : ℕ → ℕ) (k' : ℕ) → Numbering (Agree M E class) f E.states k' → k' ≡ k → Numbering (λ x y. Alike M (codes x) (codes y)) f E.states k

abbrev pub Building : Type 0
Building = (M : Automaton) (codes : ℕ → ℕ) (E : Table) → Explored M codes E → (k : ℕ) (class first : ℕ → ℕ) → Merged M codes E k class first
    → TableOf M (merged_table M codes E k class first)

pub record ImagesHold : Type 0 where
  pub one : (sh : Shape) (N : ℕ) (A B : Table) (bs cs : List ℕ) → Image sh N A bs → Image sh N B cs → (bs ≡ cs) ↔ SameTable sh A B
  pub made : (sh : Shape) (N : ℕ) (T : Table) → T.states ≤ N → (bs : List ℕ) × Image sh N T bs
  pub answers : (sh : Shape) (N : ℕ) (T : Table) (bs : List ℕ) → Image sh N T bs → 1 ≤ T.states → Closed sh T → SameTable sh T (own_table (bytes_automaton sh N bs))
  pub accepts : (M : Automaton) (N : ℕ) (T : Table) (bs : List ℕ) → TableOf M T → Image M.shape N T bs → 1 ≤ T.states → AcceptSame (bytes_automaton M.shape N bs) M

abbrev pub SlotsHold : Type 0
SlotsHold = (M : Automaton) (N k : ℕ) (bs : List ℕ) → fits M.shape N ≡ true → TableIn M N k bs → CanonicalSlot M N k bs

pub record TextsTell : Type 0 where
  pub tables : (sh sh' : Shape) (A B : Table) → Limited sh → Limited sh' → Small sh A → Small sh' B
      → (table_text sh A ≡ table_text sh' B) ↔ ((sh ≡ sh') × SameTable sh A B)
  pub automata : (M M' : Automaton) (A B : Table) → Limited M.shape → M.shape ≡ M'.shape → Lawful M → Lawful M' → TableOf M A → TableOf M' B
      → (table_text M.shape A ≡ table_text M.shape B) ↔ AcceptSame M M'
