-- The buffer comes back as the writer left it.
use Rattle.std.proofs.Common.{◌≡◌, refl, rules}
use Rattle.tables.specs.Texts.{table_text}
use Rattle.listing.specs.Sinks.{placed}
use Rattle.listing.specs.Rows.{read}
use Rattle.listing.proofs.Sinks.{pasted_none, pasted_front}
use Rattle.listing.proofs.Takings.{takes_all}
use Rattle.listing.proofs.text.Slot.write_text.Goals as goal

pub returns : goal.returns
returns c =
    let t = takes_all c.put_text.ensures (refl, pasted_none 0 c.args.buffer.now) in
    let same = t.0 in
    let front : c.put_text.new.sink.buffer.now
    ≡ placed (table_text c.args.self.now.layout.shape (read c.args.self.now)) c.args.buffer.now
    = pasted_front c.put_text.new.sink.at c.args.buffer.now c.put_text.new.sink.buffer.now
    (table_text c.args.self.now.layout.shape (read c.args.self.now)) t.1 c.requires in
    search rules
