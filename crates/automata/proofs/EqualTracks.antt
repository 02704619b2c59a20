-- Atoms over one track taken twice.
use Rattle.std.proofs.Common.{ℕ, refl}
use Rattle.trees.specs.Trees.{Tree}
use Rattle.automata.specs.Rules.{sub, left_of, right_of, below, AtomHolds}
use Rattle.automata.proofs.Relations.{left_related, right_related, below_related}
use Rattle.automata.proofs.Ones.{same_never}

module _ (i : ℕ) (t : Tree) where
  pub sub_same : AtomHolds (sub i i) t
  sub_same p h = h

  pub left_same : ¬ AtomHolds (left_of i i) t
  left_same = same_never left_related i i refl t

  pub right_same : ¬ AtomHolds (right_of i i) t
  right_same = same_never right_related i i refl t

  pub below_same : ¬ AtomHolds (below i i) t
  below_same = same_never below_related i i refl t
