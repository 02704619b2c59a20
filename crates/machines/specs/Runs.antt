-- The run of an automaton over a listing.
-- Words:
--   CodeOf M limit t x           where all of M's codes are below the limit of the stack's numbers, x is the code of t
--   Ran M limit room bs r        what a run of M over the bytes answers: the code of the tree that is read, or the first refusal due
--   Judged M limit room bs r     the same of whether M accepts that tree
use Rattle.std.specs.Prelude.{◌≡◌, ℕ, ◌≤◌, Bool, List, Some, Ok, Err, Result}
use Rattle.trees.specs.declared.refusal.Refusal.{Refusal}
use Rattle.trees.specs.Trees.{Tree}
use Rattle.trees.specs.Reading.{first_refusal, Reads}
use Rattle.automata.specs.Automata.{Automaton, code, accepts}

abbrev pub CodeOf : Automaton → ℕ → Tree → ℕ → Type 0
CodeOf M limit t x = M.count ≤ limit → x ≡ code M t

abbrev pub Ran : Automaton → ℕ → (ℕ → Bool) → List ℕ → Result ℕ Refusal → Type 0
Ran M limit room bs (Ok x) = (t : Tree) × Reads M.shape room bs t × CodeOf M limit t x
Ran M limit room bs (Err e) = first_refusal M.shape room bs ≡ Some e

abbrev pub Judged : Automaton → ℕ → (ℕ → Bool) → List ℕ → Result Bool Refusal → Type 0
Judged M limit room bs (Ok b) = (t : Tree) × Reads M.shape room bs t × (M.count ≤ limit → b ≡ accepts M t)
Judged M limit room bs (Err e) = first_refusal M.shape room bs ≡ Some e
