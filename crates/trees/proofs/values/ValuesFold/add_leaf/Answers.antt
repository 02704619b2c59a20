use Rattle.trees.proofs.PartValues.{leaf_held}
use Rattle.trees.proofs.values.ValuesFold.add_leaf.Goals as goal

pub returns-clause-made : goal.returns-clause-made
returns-clause-made g c = λ s ts e h. (
  h.0,
  leaf_held (λ v t. g.A.Algebra.comes_to s.algebra t v) _ c.args.label c.args.marks ts _ _ e c.if-height-self.false (rw (← h.0) c.leaf.ensures) h.1,
)
