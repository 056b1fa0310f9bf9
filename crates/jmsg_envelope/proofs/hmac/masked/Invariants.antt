use Rattle.std.proofs.Common.{◌≡◌, ◌++◌, take, drop}
use Rattle.jmsg_envelope.specs.Hmac.{xored}
use Rattle.jmsg_envelope.proofs.hmac.masked.Given as goal

abbrev pub invariant-loop-octet : goal.invariant-loop-octet
invariant-loop-octet l = l.octet-items ≡ xored l.pad (take l.octet-index l.block) ++ drop l.octet-index l.block
