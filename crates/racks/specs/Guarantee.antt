-- What is guaranteed of every kept rack, in the words of the log and of set logic.
-- Words:
--   HoldSame sh r s          the rules hold of the same marked trees of the shape
--   Due R store c            a refusal is due: one of the checks', or too many states
--   Guaranteed R log store   exactly the slots with a logged rule are taken; the table of such a slot accepts exactly the trees, of every finite size, of which
--                            the rule holds; which slots the checks find taken is said by the log; a call is denied exactly where a refusal is due
--   VerdictRight R log k bs places b    a verdict is yes exactly if the logged rule of its slot holds of the tree whose listing was read
--   ListsRight R log k text   any other List that was answered, on any kept rack of the shape, at any time, wrote the same bytes as the text of slot k
--                            exactly if the rules logged then hold of the same trees
--   NeverCrowded R store c   where the checks refuse nothing, the call does not meet too many states
--   Small R store            so it is for an atom and for a complement, whatever the store holds
--   Guarantee                so it is at every entry of every log
use Rattle.std.specs.Prelude.{◌≡◌, ℕ, ◌<◌, Bool, false, T, ◌⊎◌, ◌↔◌, List, Some, None, nat_lt}
use Rattle.trees.specs.declared.shape.Shape.{Shape}
use Rattle.trees.specs.declared.refusal.Refusal.{Refusal}
use Rattle.trees.specs.Trees.{Tree, Shaped}
use Rattle.trees.specs.Reading.{Reads}
use Rattle.automata.specs.Automata.{accepts}
use Rattle.automata.specs.Rules.{Atom, Rule, Holds}
use Rattle.racks.specs.declared.rack.Rack.{Rack}
use Rattle.racks.specs.Racks.{is_taken, slot_machine}
use Rattle.racks.specs.Calls.{Lent, Call, call_atom, call_not, call_judge, call_list, Outcome, judged, listed, due, due_by, write, Crowded, Effect, answered_by}
use Rattle.racks.specs.Log.{Log, logged, has_rule, KeptIn}

abbrev pub HoldSame : Shape → Rule → Rule → Type 0
HoldSame sh r s = (t : Tree) → Shaped sh t → Holds r t ↔ Holds s t

abbrev pub Due : Rack → List ℕ → Call → Type 0
Due R store c = ((e : Refusal) × (due R store c ≡ Some e)) ⊎ ((due R store c ≡ None) × Crowded R (write R store c))

pub record Guaranteed (R : Rack) (log : Log) (store : List ℕ) : Type 0 where
  pub taken : (k : ℕ) → k < R.slots → is_taken R store k ≡ has_rule log k
  pub accepted : (k : ℕ) (r : Rule) → k < R.slots → logged log k ≡ Some r → (t : Tree) → Shaped R.shape t → T (accepts (slot_machine R store k) t) ↔ Holds r t
  pub told : (c : Call) → due R store c ≡ due_by (has_rule log) R store c
  pub denied : (c : Call) (o : Outcome) → Effect R store c o → (answered_by o ≡ false) ↔ Due R store c

abbrev pub VerdictRight : Rack → Log → ℕ → List ℕ → ℕ → Bool → Type 0
VerdictRight R log k bs places b =
    (r : Rule) × (logged log k ≡ Some r) × (t : Tree) × Reads R.shape (λ n. nat_lt n places) bs t × (T b ↔ Holds r t)

abbrev pub ListsRight : Rack → Log → ℕ → List ℕ → Type 0
ListsRight R log k text =
    (r : Rule) × (logged log k ≡ Some r)
    × ((R' : Rack) (log' : Log) (store' : List ℕ) (k' room : ℕ) (text' : List ℕ) → R.shape ≡ R'.shape → KeptIn R' log' store'
    → Effect R' store' (call_list k' room) (listed text')
    → (r' : Rule) × (logged log' k' ≡ Some r') × ((text ≡ text') ↔ HoldSame R.shape r r'))

abbrev pub NeverCrowded : Rack → List ℕ → Call → Type 0
NeverCrowded R store c = due R store c ≡ None → ¬ Crowded R (write R store c)

pub record Small (R : Rack) (store : List ℕ) : Type 0 where
  pub atoms : (k : ℕ) (A : Atom) (l : Lent) → NeverCrowded R store (call_atom k A l)
  pub complements : (k x : ℕ) (l : Lent) → NeverCrowded R store (call_not k x l)

pub record Guarantee : Type 0 where
  pub slots : (R : Rack) (log : Log) (store : List ℕ) → KeptIn R log store → Guaranteed R log store
  pub verdicts : (R : Rack) (log : Log) (store : List ℕ) (k : ℕ) (bs : List ℕ) (places : ℕ) (b : Bool) → KeptIn R log store
      → Effect R store (call_judge k bs places) (judged b) → VerdictRight R log k bs places b
  pub lists : (R : Rack) (log : Log) (store : List ℕ) (k room : ℕ) (text : List ℕ) → KeptIn R log store → Effect R store (call_list k room) (listed text)
      → ListsRight R log k text
  pub small : (R : Rack) (store : List ℕ) → Small R store
