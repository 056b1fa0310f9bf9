use Rattle.zmtp_wire.proofs.LawLemmas.{text_is_read_first}
use Rattle.zmtp_wire.proofs.laws.law_text_is_read_first.Goals as goal

pub returns : goal.returns
returns c = text_is_read_first
