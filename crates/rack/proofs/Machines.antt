-- The machine of a slot is right by the log.
use Rattle.std.proofs.Common.{◌≡◌, ℕ, T, ◌↔◌, List, None, sym, subst}
use Rattle.automata.specs.Automata.{Automaton, accepts}
use Rattle.automata.specs.Rules.{Holds}
use Rattle.racks.specs.declared.rack.Rack.{Rack}
use Rattle.racks.specs.Racks.{is_taken, slot, slot_machine}
use Rattle.racks.specs.Calls.{call_drop, due}
use Rattle.racks.specs.Log.{Log, logged, KeptIn}
use Rattle.racks.proofs.Passes.{drop_passed}
use Rattle.racks.proofs.Holdings.{held_right}
use Rattle.racks.proofs.Invariants.{limits_in, rule_of}
use Rattle.racks.proofs.Runs.{invariant}
use Rattle.rack.specs.Reading.{Answers}

pub machine_right : (R : Rack) (store : List ℕ) (k : ℕ) (M : Automaton) → M ≡ slot_machine R store k → due R store (call_drop k) ≡ None
    → (log : Log) → KeptIn R log store → Answers R log k M
machine_right R store k M is d log kept =
    let p = drop_passed R store (is_taken R store) k d in
    let v = invariant R log store kept in
    let s = rule_of R (logged log) store v k p.0 p.1 in
    (s.0, s.1, λ t h. subst (λ (m : Automaton). T (accepts m t) ↔ Holds s.0 t) (sym is) (held_right R (limits_in R (logged log) store v) s.0 (slot R store k) s.2 t h))
