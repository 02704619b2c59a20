use Rattle.std.proofs.lemmas.Result.{MatchResult-weaker}
use Rattle.layers.proofs.Made.{made_joined}
use Rattle.layers.proofs.product.Product.new.Goals as goal

pub returns : goal.returns
returns g c =
    MatchResult-weaker c.of.result c.of.ensures
    (λ n. made_joined g.C.Connective.op g.C.Logical.joins g.met.C.Logical.joined (g.A.Machine.meaning c.args.left) (g.B.Machine.meaning c.args.right)
    (g.A.Machine.lawful c.args.left) (g.B.Machine.lawful c.args.right) _)
    (λ e h. h)
