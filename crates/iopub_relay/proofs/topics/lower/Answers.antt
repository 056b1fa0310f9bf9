use Rattle.std.proofs.Common.{rules, ◌≡◌, ◌-◌, sym, ap, ◌∙◌, refl}
use Rattle.std.specs.Option.{option_copied_mut}
use Rattle.iopub_relay.proofs.CountLemmas.{rewritten, kept, removed, counts_nothing, lowers_nothing}
use Rattle.iopub_relay.proofs.topics.lower.Goals as goal

pub returns-then-count-gt1 : goal.returns-then-count-gt1
returns-then-count-gt1 c =
    rewritten (λ count. count - 1) c.args.counts.now (c.get_mut.follows.lender (c.in-Some.count.now - 1))
    c.args.topic.now c.in-Some.count.now (c.in-Some.count.now - 1)
    (sym (ap option_copied_mut c.in-Some.is) ∙ c.get_mut.ensures.value) refl
    (c.get_mut.follows.holds (c.in-Some.count.now - 1)).3

pub returns-else-count-gt1 : goal.returns-else-count-gt1
returns-else-count-gt1 c =
    let stood = sym (ap option_copied_mut c.in-Some.is) ∙ c.get_mut.ensures.value in
    removed c.args.counts.now (c.get_mut.follows.lender c.in-Some.count.now) c.remove.new.self c.args.topic.now
    c.in-Some.count.now stood c.if-count-gt1.false
    (kept c.args.counts.now (c.get_mut.follows.lender c.in-Some.count.now) c.args.topic.now c.in-Some.count.now stood
    (c.get_mut.follows.holds c.in-Some.count.now).3) c.remove.ensures.updates

pub returns-in_default : goal.returns-in_default
returns-in_default c other =
    let unchanged : c.get_mut.follows.lender-at-none ≡ c.args.counts.now = search rules in
    rw unchanged (lowers_nothing c.args.counts.now c.args.topic.now other (counts_nothing c.args.counts.now
    c.args.topic.now (sym (ap option_copied_mut c.in_default.is) ∙ c.get_mut.ensures.value)))
