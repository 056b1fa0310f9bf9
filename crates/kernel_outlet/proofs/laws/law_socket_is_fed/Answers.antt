use Rattle.kernel_outlet.proofs.FedLemmas.{gets_so_is_fed}
use Rattle.kernel_outlet.proofs.laws.law_socket_is_fed.Goals as goal

pub returns : goal.returns
returns c = gets_so_is_fed
