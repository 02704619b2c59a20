use Rattle.trees.proofs.PartValues.{inner_held}
use Rattle.trees.proofs.values.ValuesFold.add_inner.Goals as goal

pub returns-clause-made : goal.returns-clause-made
returns-clause-made g c = λ s l r ts e h. (
  h.0,
  inner_held (λ v t. g.A.Algebra.comes_to s.algebra t v) _ c.args.label c.args.marks l r ts _ _ _ _ e (rw h.0 at (c.inner.ensures l r)) h.1,
)
