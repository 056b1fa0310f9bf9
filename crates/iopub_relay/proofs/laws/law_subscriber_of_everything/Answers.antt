use Rattle.iopub_relay.proofs.LawLemmas.{gets_everything}
use Rattle.iopub_relay.proofs.laws.law_subscriber_of_everything.Goals as goal

pub returns : goal.returns
returns g c = gets_everything
