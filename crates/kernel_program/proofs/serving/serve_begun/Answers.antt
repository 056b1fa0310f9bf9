use Rattle.kernel_program.proofs.EndLemmas.{serving_unbegun, serving_weaker}
use Rattle.kernel_program.proofs.serving.serve_begun.Goals as goal

pub returns-in-Ok-clause-ends : goal.returns-in-Ok-clause-ends
returns-in-Ok-clause-ends g c =
    serving_weaker (g.L.Language.profile c.args.language.now).Refuses c.serve_on.result c.serve_on.ensures.ends

pub returns-in-Err-clause-ends : goal.returns-in-Err-clause-ends
returns-in-Err-clause-ends g c = rw c.not_begun.ensures (serving_unbegun (g.L.Language.profile c.args.language.now) c.in-Err.fault c.in-Err.ensures.refused)
