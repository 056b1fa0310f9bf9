use Rattle.std.proofs.Common.{ℕ, Option, ap, sym, ◌∙◌, unwrap_or}
use Rattle.iopub_relay.proofs.CountLemmas.{counted_is}
use Rattle.iopub_relay.proofs.topics.count_of.Goals as goal

pub returns : goal.returns
returns c =
    c.unwrap_or.ensures ∙ ap (λ (found : Option ℕ). unwrap_or found 0) (c.copied.ensures ∙ c.get.ensures.value)
    ∙ sym (counted_is c.args.counts.now c.args.topic.now)
