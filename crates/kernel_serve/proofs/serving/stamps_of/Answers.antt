use Rattle.kernel_serve.proofs.StampLemmas.{letters_apart}
use Rattle.kernel_serve.proofs.serving.stamps_of.Goals as goal

pub returns-in-Ok : goal.returns-in-Ok
returns-in-Ok g c = letters_apart _ _ _ c.in_ok-shell.ensures c.in-Ok.ensures
