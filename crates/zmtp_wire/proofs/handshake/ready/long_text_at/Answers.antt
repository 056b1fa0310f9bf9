use Rattle.std.proofs.Common.{arith}
use Rattle.zmtp_wire.proofs.PropertyLemmas.{long_text_found}
use Rattle.zmtp_wire.proofs.handshake.ready.long_text_at.Goals as goal

pub returns-clause-found : goal.returns-clause-found
returns-clause-found c =
    let head = c.in_ok-len.ensures.cases in
    let cut = c.split_at.ensures in
    long_text_found c.args.octets.now c.in_ok-len.len.now c.in_ok-len.behind.now c.split_at.result.0.now
    c.split_at.result.1.now c.from_be_bytes-len.result
    (λ i. omega (arith, c.type_inv.octets i)) (omega (arith, head.2)) head.0 head.1 c.from_be_bytes-len.ensures
    cut.front_len cut.by_index.0
