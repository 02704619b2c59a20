-- Atoms over one track taken twice.
use Rattle.std.specs.Prelude.{ℕ}
use Rattle.trees.specs.Trees.{Tree}
use Rattle.automata.specs.Rules.{sub, left_of, right_of, below, AtomHolds}

pub record EqualTracks : Type 0 where
  pub sub_holds : (i : ℕ) (t : Tree) → AtomHolds (sub i i) t
  pub left_never : (i : ℕ) (t : Tree) → ¬ AtomHolds (left_of i i) t
  pub right_never : (i : ℕ) (t : Tree) → ¬ AtomHolds (right_of i i) t
  pub below_never : (i : ℕ) (t : Tree) → ¬ AtomHolds (below i i) t
