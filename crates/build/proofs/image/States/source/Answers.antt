-- The row of an inner cell is one of the rows.
use Rattle.std.proofs.lemmas.Nat.{div_below}
use Rattle.build.proofs.Sources.{square_pos}
use Rattle.build.proofs.image.States.source.Goals as goal

pub inner_step-label-requires : goal.inner_step-label-requires
inner_step-label-requires c = div_below _ _ _ (square_pos _ c.args.self.now.layout.within.some) c.requires
