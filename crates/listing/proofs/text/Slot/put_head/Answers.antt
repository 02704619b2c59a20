-- The letter, four fields, and the line's end.
use Rattle.std.proofs.Common.{[], ◌∷◌}
use Rattle.listing.proofs.Takings.{takes_line}
use Rattle.listing.proofs.text.Slot.put_head.Goals as goal

pub returns : goal.returns
returns g c =
    let sh = c.args.self.now.layout.shape in
    takes_line (sh.leaves ∷ sh.inners ∷ sh.tracks ∷ c.args.self.now.states ∷ []) c.put.ensures
    (c.put_fields.ensures (λ n. n) (λ b n h p. p)) c.put-2.ensures
