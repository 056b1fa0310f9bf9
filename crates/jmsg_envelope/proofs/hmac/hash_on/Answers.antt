use Rattle.std.proofs.Common.{arith, ◌++◌, flat_map, subst}
use Rattle.std.proofs.lemmas.List.{take_all}
use Rattle.sha2.specs.Hashers.{Holds256}
use Rattle.jmsg_envelope.proofs.hmac.hash_on.Goals as goal

pub returns : goal.returns
returns c =
    λ held holds. let parts = c.args.parts.now in
    c.finalize.ensures (held ++ flat_map (λ part. part.now) parts)
    (subst (λ its. Holds256 c.loop-part.all (held ++ flat_map (λ part. part.now) its))
    (take_all c.loop-part.part-index parts (omega arith)) (c.loop-part.invariant held holds))
