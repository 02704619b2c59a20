-- The count does not wrap, as the text is short.
use Rattle.std.proofs.Common.{refl, arith}
use Rattle.automata.specs.Numbering.{Table}
use Rattle.tables.specs.Texts.{table_text}
use Rattle.listing.specs.Rows.{read}
use Rattle.listing.proofs.Sinks.{counted_all}
use Rattle.listing.proofs.Takings.{takes_all}
use Rattle.listing.proofs.Lengths.{text_short}
use Rattle.listing.proofs.text.Slot.text_length.Goals as goal

pub returns : goal.returns
returns c =
    let T : Table = read c.args.self.now in
    counted_all c.put_text.new.sink.length (table_text c.args.self.now.layout.shape T) (takes_all c.put_text.ensures (λ _. refl))
    (text_short c.args.self.now.layout.shape T c.args.self.now.layout.within.shape
    (omega (arith, c.args.self.now.few, c.args.self.now.layout.within.few)))
