use Rattle.jkernel.proofs.ArithmeticLemmas.{arithmetic_never_raises}
use Rattle.jkernel.proofs.laws.law_kernel_is_of_arithmetic.Goals as goal

pub returns-clause-raises : goal.returns-clause-raises
returns-clause-raises c = arithmetic_never_raises
