-- The log of a rack's calls, the rules that it gives to slots, and what it is for a rack to be kept.
-- Words:
--   Entry           a call and whether it was answered
--   Log             the entries since Make, the newest first
--   give k o rules  slot k has o, the others what they had
--   rules_after     the rules after an answered call
--   logged log k    the rule that the log gives to slot k, or none
--   has_rule log k  it gives one
--   entry c o       the entry of a call with this outcome
--   Kept R log bytes     an answered Make, then only calls, each by its effect, left these S × W bytes
--   KeptIn R log store   so they left the first S × W bytes of the store
use Rattle.std.specs.Prelude.{◌≡◌, ℕ, Bool, true, false, cond, List, [], ◌∷◌, take, replicate, Some, None, Option, ◌==◌}
use Rattle.automata.specs.Rules.{Rule, atom, neg, both, either, some_set, taken}
use Rattle.racks.specs.declared.rack.Rack.{Rack}
use Rattle.racks.specs.Racks.{rack_fits, store_bytes}
use Rattle.racks.specs.Calls.{Call, call_atom, call_not, call_both, call_either, call_some, call_take, call_drop, call_judge, call_list, Outcome, Effect, store_after, answered_by}

pub record Entry : Type 0 where
  pub call : Call
  pub answered : Bool

abbrev pub Log : Type 0
Log = List Entry

abbrev pub give : ℕ → Option Rule → (ℕ → Option Rule) → ℕ → Option Rule
give k o rules j = cond (j == k) o (rules j)

abbrev pub one_rule : (Rule → Rule) → Option Rule → Option Rule
one_rule f None = None
one_rule f (Some r) = Some (f r)

abbrev pub two_rules : (Rule → Rule → Rule) → Option Rule → Option Rule → Option Rule
two_rules f None o = None
two_rules f (Some r) None = None
two_rules f (Some r) (Some s) = Some (f r s)

abbrev pub rules_after : Call → (ℕ → Option Rule) → ℕ → Option Rule
rules_after (call_atom k A l) rules = give k (Some (atom A)) rules
rules_after (call_not k x l) rules = give k (one_rule neg (rules x)) rules
rules_after (call_both k x y l) rules = give k (two_rules both (rules x) (rules y)) rules
rules_after (call_either k x y l) rules = give k (two_rules either (rules x) (rules y)) rules
rules_after (call_some k x i l) rules = give k (one_rule (some_set i) (rules x)) rules
rules_after (call_take k M l) rules = give k (Some (taken M)) rules
rules_after (call_drop k) rules = give k None rules
rules_after (call_judge k bs places) rules = rules
rules_after (call_list k room) rules = rules

abbrev pub logged : Log → ℕ → Option Rule
logged [] = λ k. None
logged (e ∷ es) = cond e.answered (rules_after e.call (logged es)) (logged es)

abbrev pub is_rule : Option Rule → Bool
is_rule None = false
is_rule (Some r) = true

abbrev pub has_rule : Log → ℕ → Bool
has_rule log k = is_rule (logged log k)

abbrev pub entry : Call → Outcome → Entry
entry c o = record { call = c; answered = answered_by o }

pub data Kept (R : Rack) : Log → List ℕ → Type 0 where
  made : rack_fits R ≡ true → Kept R [] (replicate (store_bytes R) 0)
  called : {log : Log} (store : List ℕ) (c : Call) (o : Outcome) → Kept R log (take (store_bytes R) store) → Effect R store c o
      → Kept R (entry c o ∷ log) (take (store_bytes R) (store_after store o))

abbrev pub KeptIn : Rack → Log → List ℕ → Type 0
KeptIn R log store = Kept R log (take (store_bytes R) store)
