-- The text of the slot.
use Rattle.std.proofs.Common.{ℕ, max, ap, ◌∙◌, rules}
use Rattle.listing.proofs.Texts.{text_is}
use Rattle.listing.proofs.text.Slot.new.Goals as goal

pub returns : goal.returns
returns c = (
  search rules,
  text_is c.in_ok-layout.layout c.args.bytes.now c.args.shape c.args.most c.max.result c.in_ok-layout.ensures.0 c.in_ok-layout.ensures.1.0 c.in_ok-layout.ensures.1.1
      (c.max.ensures ∙ ap (λ (n : ℕ). max n 1) c.min.ensures),
)
