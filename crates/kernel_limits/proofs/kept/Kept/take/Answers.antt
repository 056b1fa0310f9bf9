use Rattle.std.proofs.Common.{rules, ◌≡◌, length}
use Rattle.kernel_limits.proofs.KeptLemmas.{kept_without_first}
use Rattle.kernel_limits.proofs.kept.Kept.take.Goals as goal

-- src/kept.rt:140:13
pub invariant_of-self-in-Some : goal.invariant_of-self-in-Some
invariant_of-self-in-Some c =
    let taken : c.len-in-Some.result ≡ length c.in-Some.chunk.items = search rules in
    kept_without_first c.self.inside.len c.len-in-Some.result c.self.inside.short.items c.in-Some.chunk
    c.self.inside.full.items c.pop_front.new.self.items c.self.inside.last.items c.in-Some.ensures.items taken
    c.self.invariant
