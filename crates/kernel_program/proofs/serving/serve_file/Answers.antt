use Rattle.kernel_program.proofs.EndLemmas.{serve_of_octets}
use Rattle.kernel_program.proofs.serving.serve_file.Goals as goal

pub returns-in-Ok-clause-ends : goal.returns-in-Ok-clause-ends
returns-in-Ok-clause-ends g c =
    serve_of_octets (g.L.Language.profile c.args.language.now).Refuses _ c.serve_octets-status.result
    c.serve_octets-status.ensures.ends
