use Rattle.zmtp_wire.proofs.handshake.ready.read_identity.Goals as goal

pub returns-in-Command-clause-none : goal.returns-in-Command-clause-none
returns-in-Command-clause-none c =
    rw c.in-Command.is (rw (c.as_slice.ensures, c.as_slice-in-Command.ensures) at c.identity_in.ensures.none)
