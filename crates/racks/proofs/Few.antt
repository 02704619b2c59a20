-- An atom and a complement never have too many codes for a slot.
use Rattle.std.proofs.Common.{◌≡◌, ℕ, suc, ◌<◌, ◌≤◌, Bool, true, false, ◌⊎◌, List, sym, inl, inr, arith}
use Rattle.std.proofs.lemmas.Bool.{cases_order}
use Rattle.automata.specs.Automata.{Automaton, Lawful}
use Rattle.automata.specs.Atoms.{atom_automaton}
use Rattle.automata.specs.Layers.{not_layer}
use Rattle.automata.proofs.AtomAutomata.{atom_lawful}
use Rattle.automata.proofs.Products.{not_lawful}
use Rattle.tables.specs.Images.{fits}
use Rattle.tables.specs.Slots.{codes}
use Rattle.tables.specs.SlotLaws.{slot_lawful}
use Rattle.tables.specs.Tables.{TooMany}
use Rattle.tables.proofs.OwnTables.{reached_lt}
use Rattle.tables.proofs.Pigeons.{pigeon}
use Rattle.racks.specs.declared.rack.Rack.{Rack}
use Rattle.racks.specs.Racks.{slot, slot_machine}
use Rattle.racks.specs.Guarantee.{Small}
use Rattle.racks.proofs.Atoms.{atom_count}
use Rattle.racks.proofs.Passes.{limits_of, opened}

-- codes that differ are no more than the count
counted : (M : Automaton) (N : ℕ) → Lawful M → M.count ≤ N → ¬ TooMany M N
counted M N law few many =
    absurd (omega (
      arith,
      few,
      pigeon M.count (suc N) (λ i h. many.codes i) (λ i h. reached_lt M law (many.codes i) (many.reached i (omega arith)))
          (λ i j h k e. one i j (omega arith) (omega arith) e (cases_order i j)),
    ))
  where
    one : (i j : ℕ) → i ≤ N → j ≤ N → many.codes i ≡ many.codes j → (i ≡ j) ⊎ ((i < j) ⊎ (j < i)) → i ≡ j
    one i j h k e (inl z) = z
    one i j h k e (inr (inl z)) = absurd (many.apart i j z k e)
    one i j h k e (inr (inr z)) = absurd (many.apart j i z h (sym e))

few_codes : (ok : Bool) (N : ℕ) (bs : List ℕ) → 1 ≤ N → codes ok N bs ≤ N
few_codes true N bs h = omega arith
few_codes false N bs h = h

pub small : (R : Rack) (store : List ℕ) → Small R store
small R store = record {
  atoms = λ k A l none.
      let least = (limits_of R (opened R store _ none).0).least in
      counted (atom_automaton R.shape A) R.most (atom_lawful R.shape A) (omega (arith, atom_count R.shape A));
  complements = λ k x l none.
      let least = (limits_of R (opened R store _ none).0).least in
      let bs = slot R store x in
      counted (not_layer (slot_machine R store x)) R.most (not_lawful (slot_machine R store x) (slot_lawful R.shape R.most bs))
      (few_codes (fits R.shape R.most) R.most bs (omega arith));
}
