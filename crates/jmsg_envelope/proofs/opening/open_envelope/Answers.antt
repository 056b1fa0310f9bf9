use Rattle.std.proofs.Common.{inl, inr}
use Rattle.std.proofs.lemmas.Result.{err_from_is_err_and}
use Rattle.jmsg_envelope.proofs.Cuts.{uncut_is_none}
use Rattle.jmsg_envelope.proofs.opening.open_envelope.Goals as goal

pub returns-in_err-split-clause-refused : goal.returns-in_err-split-clause-refused
returns-in_err-split-clause-refused c =
    let p = err_from_is_err_and c.from_residual.result c.from_residual.ensures.1 in
    rw (p.1, p.2) (elim c.in_err-split.ensures.err [
      | inl memory ↦ inl memory
      | inr refused ↦
          inr (uncut_is_none c.args.signer.now _ _ refused)
    ])
