use Rattle.std.proofs.Common.{take}
use Rattle.arith_syntax.specs.Lexed.{IsNumber}
use Rattle.arith_syntax.proofs.constant.number.Given as goal

abbrev pub invariant-loop-octet : goal.invariant-loop-octet
invariant-loop-octet l = IsNumber l.base (take l.octet-index l.digits) l.value
