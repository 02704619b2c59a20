-- The rules that each of the programs knows.
-- Words:
--   name_of   a rule's name
--   Parses    the rule of this name, or a fault that lists the names
use Rattle.std.specs.Prelude.{◌≡◌, ◌≢◌, ℕ, List, codes, Result, MatchResult}
use Rattle.console.specs.Faults.{text}
use Rattle.console.specs.declared.fault.Fault.{Fault}
use Rattle.console.specs.declared.rule.Rule.{Rule}
use Rattle.console.specs.declared.rule.Rule.TheVariants.{One, Covered, Several, Guarded}

abbrev pub name_of : Rule → List ℕ
name_of One = codes "one"
name_of Covered = codes "covered"
name_of Several = codes "several"
name_of Guarded = codes "guarded"

abbrev pub Parses : List ℕ → Result Rule Fault → Type 0
Parses name r = MatchResult r (λ rule. name ≡ name_of rule)
    (λ e. ((rule : Rule) → name ≢ name_of rule) × (text e ≡ codes "bad line: a rule is one of one, covered, several, guarded and none"))
