use Rattle.std.proofs.Common.{◌≡◌, ◌^◌, true, rules}
use Rattle.automata.specs.Atoms.{inner_asked}
use Rattle.layers.specs.Projection.{inner_code}
use Rattle.layers.proofs.Steps.{inner_step}
use Rattle.layers.proofs.projection.ExistsMachine.inner.Goals as goal

pub returns : goal.returns
returns g c =
    let M = g.M.Machine.meaning c.args.self.now.of in
    let asked : inner_asked M.shape (2 ^ M.count) c.args.label c.args.marks c.args.left c.args.right ≡ true = search rules in
    let gave : c.inner.result ≡ inner_code c.args.self.now.track M c.args.label c.args.marks c.args.left c.args.right = search rules in
    inner_step c.args.self.now.track M _ _ _ _ _ c.in-Some.ensures.0 asked gave
