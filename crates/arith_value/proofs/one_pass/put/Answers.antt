use Rattle.std.proofs.Common.{rules, ℤ, Ok, reverse, subst, FitsSigned, w64, to_z, of_z}
use Rattle.std.proofs.lemmas.Int.{to_z-of_z}
use Rattle.arith_value.specs.OnePass.{Puts}
use Rattle.arith_value.proofs.OnePassLemmas.{puts_pushed}
use Rattle.arith_value.proofs.one_pass.put.Goals as goal

pub returns-in-Ok : goal.returns-in-Ok
returns-in-Ok c =
    let fits : FitsSigned w64 c.in-Ok.number = search rules in
    rw c.in-Ok.is
    (subst (λ (n : ℤ). Puts (reverse c.args.waiting.now.items) (Ok n) c.is_ok.result (reverse c.push.new.self.items))
    (to_z-of_z w64 c.in-Ok.number fits)
    (puts_pushed c.args.waiting.now.items c.push.new.self.items (to_z w64 (of_z w64 c.in-Ok.number)) c.is_ok.result
    (rw c.is_ok.ensures.value c.push.ensures.items)))
