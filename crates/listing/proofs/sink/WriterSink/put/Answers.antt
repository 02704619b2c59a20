use Rattle.listing.proofs.Sinks.{pasted_more}
use Rattle.listing.proofs.sink.WriterSink.put.Goals as goal

pub returns-then-self : goal.returns-then-self
returns-then-self c = record {
  on = λ r cs h. (h.0, pasted_more r.at c.args.self.now.at c.args.byte r.buffer.now c.args.self.now.buffer.now cs h.1);
}
