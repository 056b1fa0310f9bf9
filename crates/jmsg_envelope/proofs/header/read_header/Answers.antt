use Rattle.std.proofs.Common.{inr, refl}
use Rattle.std.proofs.lemmas.Bool.{false≢true}
use Rattle.jmsg_envelope.proofs.Names.{header_names-from_read, header_names-None}
use Rattle.jmsg_envelope.proofs.header.read_header.Goals as goal

pub returns-in-Ok-clause-ok : goal.returns-in-Ok-clause-ok
returns-in-Ok-clause-ok c = header_names-from_read c.args.octets.now _ c.in-Ok.ensures.ok.0 c.in-Ok.ensures.ok.1

pub returns-in-Err-2-clause-err : goal.returns-in-Err-2-clause-err
returns-in-Err-2-clause-err c =
    inr (
      refl,
      header_names-None c.args.octets.now (c.in-Err.ensures.err
          (λ memory. false≢true (c.if-is_memory.ensures.1 memory))),
    )
