use Rattle.std.proofs.Common.{ap, ◌∙◌, Some}
use Rattle.std.proofs.lemmas.Map.Iter.{rest_more, rest_all}
use Rattle.jmsg_types.proofs.TextLemmas.{left_first, left_next, left_other, left_last, names_rise}
use Rattle.jmsg_types.proofs.field.owned_texts.Goals as goal

pub loop-name-init : goal.loop-name-init
loop-name-init c =
    left_first c.args.members.entries _ _ c.into_iter-name-iterator.ensures.into_iter_gives.0
    c.in_ok-texts.ensures.items

pub returns-in_default-clause-value : goal.returns-in_default-clause-value
returns-in_default-clause-value c =
    left_other _ _ _ _ _ _ c.loop-name.invariant (rest_more (λ p. p) _ _ _ _ c.in-Some.is c.next.ensures.steps)
    c.in_default.ensures

pub loop-name-preserved : goal.loop-name-preserved
loop-name-preserved c =
    left_next _ _ _ _ _ _ _ _ _ c.loop-name.invariant (rest_more (λ p. p) _ _ _ _ c.in-Some.is c.next.ensures.steps)
    c.in-Some-into_text.ensures c.new.ensures c.in_ok-push.ensures.items

pub returns-clause-value : goal.returns-clause-value
returns-clause-value c =
    ap Some c.new-2.ensures ∙ left_last _ _ _ c.loop-name.invariant
    (rest_all (λ p. p) _ _ _ c.in-None.is c.next.ensures.steps)

pub returns-clause-ordered : goal.returns-clause-ordered
returns-clause-ordered c =
    names_rise c.args.members.entries c.new-2.result c.into_iter-name-iterator.ensures.into_iter_gives.5
    (ap Some c.new-2.ensures ∙ left_last _ _ _ c.loop-name.invariant
    (rest_all (λ p. p) _ _ _ c.in-None.is c.next.ensures.steps))
