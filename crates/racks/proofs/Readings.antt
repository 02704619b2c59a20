-- Calls that only read: verdicts and lists write nothing, and what writes nothing gives no rule.
use Rattle.std.proofs.Common.{◌≡◌, ℕ, Bool, List, Option, refl}
use Rattle.automata.specs.Automata.{Automaton}
use Rattle.automata.specs.Rules.{Rule}
use Rattle.racks.specs.declared.rack.Rack.{Rack}
use Rattle.racks.specs.Calls.{Call, call_atom, call_not, call_both, call_either, call_some, call_take, call_drop, call_judge, call_list, table, zeros, nothing, write, Judges, Lists}
use Rattle.racks.specs.Log.{rules_after}

module _ (R : Rack) (store : List ℕ) where
  pub judge_writes : (c : Call) (b : Bool) → Judges R store c b → write R store c ≡ nothing
  judge_writes (call_atom k A l) b j = elim j [ ]
  judge_writes (call_not k x l) b j = elim j [ ]
  judge_writes (call_both k x y l) b j = elim j [ ]
  judge_writes (call_either k x y l) b j = elim j [ ]
  judge_writes (call_some k x i l) b j = elim j [ ]
  judge_writes (call_take k M l) b j = elim j [ ]
  judge_writes (call_drop k) b j = elim j [ ]
  judge_writes (call_judge k bs places) b j = refl
  judge_writes (call_list k room) b j = elim j [ ]

  pub list_writes : (c : Call) (text : List ℕ) → Lists R store c text → write R store c ≡ nothing
  list_writes (call_atom k A l) text j = elim j [ ]
  list_writes (call_not k x l) text j = elim j [ ]
  list_writes (call_both k x y l) text j = elim j [ ]
  list_writes (call_either k x y l) text j = elim j [ ]
  list_writes (call_some k x i l) text j = elim j [ ]
  list_writes (call_take k M l) text j = elim j [ ]
  list_writes (call_drop k) text j = elim j [ ]
  list_writes (call_judge k bs places) text j = elim j [ ]
  list_writes (call_list k room) text j = refl

  writes_table : (k : ℕ) (M : Automaton) → table k M ≡ nothing → ⊥
  writes_table k M e = cc

  writes_zeros : (k : ℕ) → zeros k ≡ nothing → ⊥
  writes_zeros k e = cc

  pub no_rule_given : (rules : ℕ → Option Rule) (c : Call) → write R store c ≡ nothing → rules_after c rules ≡ rules
  no_rule_given rules (call_atom k A l) e = absurd (writes_table _ _ e)
  no_rule_given rules (call_not k x l) e = absurd (writes_table _ _ e)
  no_rule_given rules (call_both k x y l) e = absurd (writes_table _ _ e)
  no_rule_given rules (call_either k x y l) e = absurd (writes_table _ _ e)
  no_rule_given rules (call_some k x i l) e = absurd (writes_table _ _ e)
  no_rule_given rules (call_take k M l) e = absurd (writes_table _ _ e)
  no_rule_given rules (call_drop k) e = absurd (writes_zeros _ e)
  no_rule_given rules (call_judge k bs places) e = refl
  no_rule_given rules (call_list k room) e = refl
