-- Complement.
-- Words:
--   not_meaning    what a Not means, by what the machine below means
--   MadeNot M N    N is the complement of M: it accepts exactly what M does not
use Rattle.std.specs.Prelude.{◌≡◌, T, ◌↔◌}
use Rattle.trees.specs.Trees.{Tree}
use Rattle.automata.specs.Automata.{Automaton, accepts}
use Rattle.automata.specs.Layers.{not_layer}
use Rattle.layers.specs.declared.complement.Not.{Not}

abbrev pub not_meaning : {M : Type 0} → (M → Automaton) → Not M → Automaton
not_meaning meaning s = not_layer (meaning s.of)

pub record MadeNot (M N : Automaton) : Type 0 where
  pub layer : N ≡ not_layer M
  pub accepted : (t : Tree) → T (accepts N t) ↔ (¬ T (accepts M t))
