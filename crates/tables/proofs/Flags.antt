-- The number 1 or 0 that a test is written as.
use Rattle.std.proofs.Common.{◌≡◌, Bool, true, false, eqb, refl, arith}
use Rattle.automata.specs.Atoms.{one_if}

pub one_if_inj : (a b : Bool) → one_if a ≡ one_if b → a ≡ b
one_if_inj true true e = refl
one_if_inj true false e = absurd (omega arith)
one_if_inj false true e = absurd (omega arith)
one_if_inj false false e = refl

pub one_if_eqb : (b : Bool) → eqb (one_if b) 1 ≡ b
one_if_eqb true = refl
one_if_eqb false = refl
