use Rattle.std.proofs.Common.{◌≡◌, ◌∙◌, subst}
use Rattle.zmtp_connection.specs.declared.shaking.Unheard.{Unheard}
use Rattle.zmtp_connection.specs.Open.{IsLeftOf}
use Rattle.zmtp_connection.proofs.listening.listen.Goals as goal

pub returns-in-Some-clause-listens : goal.returns-in-Some-clause-listens
returns-in-Some-clause-listens g c before (unheard, is, of) =
    let taken = c.in-Some.ensures.taken ∙ is in
    let same : unheard ≡ c.in-Some.unheard = cc in
    c.listen_on.ensures.listens before (subst (λ (u : Unheard). IsLeftOf u before) same of)
