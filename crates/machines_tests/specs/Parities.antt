-- Trees with an odd number of leaves.
use Rattle.std.specs.Prelude.{◌+◌, ◌%◌, nat_eq}
use Rattle.std.proofs.Common.{arith, lit≤}
use Rattle.trees.specs.declared.shape.Shape.{Shape}
use Rattle.automata.specs.Automata.{Automaton, Lawful}
use Rattle.automata.specs.Atoms.{guarded}
use Rattle.automata.proofs.Guards.{guarded_lawful}

abbrev pub parity_automaton : Shape → Automaton
parity_automaton sh = guarded sh 2 (λ a m. 1) (λ a m x y. (x + y) % 2) (λ x. nat_eq x 1)

pub parity_lawful : (sh : Shape) → Lawful (parity_automaton sh)
parity_lawful sh =
    guarded_lawful sh 2 (λ a m. 1) (λ a m x y. (x + y) % 2) (λ x. nat_eq x 1) (lit≤ tt) (lit≤ tt) (λ a m h k. omega arith) (λ a m x y h k u v. omega arith)
