-- Layers that may not fit. Every value of a layer's type means a lawful automaton, also one that could not have been made:
-- that one stands idle.
-- Words:
--   fitted b M    M where b holds; else one code, and no final code
use Rattle.std.specs.Prelude.{◌≡◌, Bool, true, false, cond, refl}
use Rattle.std.proofs.Common.{ap, arith}
use Rattle.automata.specs.Automata.{Automaton, Lawful}

abbrev pub fitted : Bool → Automaton → Automaton
fitted b M = record {
  shape = M.shape;
  count = cond b M.count 1;
  leaf_step = λ a m. cond b (M.leaf_step a m) 0;
  inner_step = λ a m x y. cond b (M.inner_step a m x y) 0;
  final = λ x. cond b (M.final x) false;
}

pub fitted_is : (b : Bool) (M : Automaton) → b ≡ true → fitted b M ≡ M
fitted_is b M e = ap (λ (c : Bool). fitted c M) e

pub fitted_lawful : (b : Bool) (M : Automaton) → (b ≡ true → Lawful M) → Lawful (fitted b M)
fitted_lawful true M ok = ok refl
fitted_lawful false M ok = record {
  count_fits = (omega arith, omega arith);
  leaf_in = λ a m. omega arith;
  inner_in = λ a m x y. omega arith;
  leaf_out = λ a m h. refl;
  inner_out = λ a m x y h. refl;
  final_out = λ x h. refl;
}
