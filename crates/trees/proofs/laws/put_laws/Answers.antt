use Rattle.trees.proofs.Puts.{put_in, put_other, put_label, put_nodes, put_shaped}
use Rattle.trees.proofs.laws.put_laws.Goals as goal

pub returns : goal.returns
returns c = record { exactly = put_in; others = put_other; labels = put_label; nodes = put_nodes; shaped = put_shaped }
