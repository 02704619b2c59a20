-- Lines of input.
-- Words:
--   word, rest    what stands before and after the first blank of a text
--   Says          what a line says that is read as this command, by how the program reads names of rules and words of its own
use Rattle.std.specs.Prelude.{◌≡◌, ◌≢◌, ℕ, ◌*◌, ◌≤◌, ◌==◌, List, [], length, codes, Option, Some, None, Ok, Err, Result}
use Rattle.std.specs.List.{before_first, after_first}
use Rattle.std.specs.Str.{trim}
use Rattle.trees.specs.Shapes.{Limited}
use Rattle.console.specs.declared.fault.Fault.{Fault}
use Rattle.console.specs.declared.command.Command.{Command}
use Rattle.console.specs.declared.command.Command.TheVariants.{Nothing, Shape, Stack, Rule, Tree, Own}

abbrev pub word : List ℕ → List ℕ
word text = before_first (λ b. b == 32) text

abbrev pub rest : List ℕ → List ℕ
rest text = after_first (λ b. b == 32) text

-- what the text after `rule` names: a rule, or none
abbrev pub Names : {R : Type 0} → (List ℕ → Result R Fault → Type 0) → List ℕ → Option R → Type 0
Names rule text None = trim text ≡ codes "none"
Names rule text (Some r) = (trim text ≢ codes "none") × rule (trim text) (Ok r)

-- it names neither
abbrev pub Unnamed : {R : Type 0} → (List ℕ → Result R Fault → Type 0) → List ℕ → Fault → Type 0
Unnamed rule text fault = (trim text ≢ codes "none") × rule (trim text) (Err fault)

-- of a line with no blank at its ends
abbrev pub Says : {R W : Type 0} → (List ℕ → Result R Fault → Type 0) → (List ℕ → Result W Fault → Type 0) → List ℕ → Command R W → Type 0
Says rule own line Nothing = line ≡ []
Says rule own line (Shape sh) = (word line ≡ codes "shape") × Limited sh
Says rule own line (Stack places) = (word line ≡ codes "stack") × (places ≤ 8192)
Says rule own line (Rule r) = (word line ≡ codes "rule") × Names rule (rest line) r
Says rule own line (Tree listing) = (word line ≡ codes "tree") × (length listing.items ≤ 4 * 8192)
Says rule own line (Own w) = own (word line) (Ok w)
