use Rattle.tables.proofs.texts_tell.Goals as goal
use Rattle.tables.proofs.Texts.{text_iff, text_canonical}

pub returns : goal.returns
returns c = record { tables = text_iff; automata = text_canonical }
