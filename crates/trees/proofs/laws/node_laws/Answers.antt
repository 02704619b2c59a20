use Rattle.trees.proofs.Children.{left_part, right_part, below_children}
use Rattle.trees.proofs.Splits.{length_listing}
use Rattle.trees.proofs.laws.node_laws.Goals as goal

pub returns : goal.returns
returns c = record { left_part = left_part; right_part = right_part; below = below_children; bytes = length_listing }
