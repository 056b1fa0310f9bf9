-- The law of values for proofs of crates above. It has the name of the public function whose contract it is.
use Rattle.arith_value.specs.Own.{ValuesAreOwn}
use Rattle.arith_value.proofs.OwnLemmas.{own_values}

-- what an expression is worth is never want of memory
pub values_are_their_own : ValuesAreOwn
values_are_their_own = own_values
