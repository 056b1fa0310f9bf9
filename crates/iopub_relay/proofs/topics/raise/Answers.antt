use Rattle.std.proofs.Common.{rules, ◌+◌, sym, ap, ◌∙◌}
use Rattle.std.specs.Option.{option_copied_mut}
use Rattle.iopub_relay.proofs.CountLemmas.{rewritten, kept, counts_nothing}
use Rattle.iopub_relay.proofs.topics.raise.Goals as goal

pub returns-in-Some-checked_add : goal.returns-in-Some-checked_add
returns-in-Some-checked_add c =
    rewritten (λ count. count + 1) c.args.counts.now (c.get_mut.follows.lender c.in-Some-checked_add.more)
    c.args.topic.now c.in-Some.count.now c.in-Some-checked_add.more
    (sym (ap option_copied_mut c.in-Some.is) ∙ c.get_mut.ensures.value) c.in-Some-checked_add.ensures.1
    (c.get_mut.follows.holds c.in-Some-checked_add.more).3

pub returns-in-None : goal.returns-in-None
returns-in-None c =
    kept c.args.counts.now (c.get_mut.follows.lender c.in-Some.count.now) c.args.topic.now c.in-Some.count.now
    (sym (ap option_copied_mut c.in-Some.is) ∙ c.get_mut.ensures.value)
    (c.get_mut.follows.holds c.in-Some.count.now).3

pub returns-in_default : goal.returns-in_default
returns-in_default c = (
  search rules,
  counts_nothing c.args.counts.now c.args.topic.now
      (sym (ap option_copied_mut c.in_default.is) ∙ c.get_mut.ensures.value),
)
