use Rattle.arith_value.proofs.OnePassLemmas.{takes_last}
use Rattle.arith_value.proofs.one_pass.take.Goals as goal

pub returns : goal.returns
returns c = takes_last c.args.waiting.now.items c.pop.new.self.items c.pop.result c.pop.ensures.items
