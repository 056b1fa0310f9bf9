use Rattle.std.proofs.Common.{◌≡◌, ap, ◌∙◌}
use Rattle.serde_json.specs.View.{view}
use Rattle.serde_json.specs.Written.{compact_text, has_float}
use Rattle.jmsg_types.specs.Reply.{reply_data}
use Rattle.jmsg_types.proofs.FloatLemmas.{has_float-reply_data}
use Rattle.jmsg_types.proofs.reply.content_text.Goals as goal

pub returns-clause-text : goal.returns-clause-text
returns-clause-text c =
    let built : view c.in_ok-value.value ≡ reply_data c.args.reply.now = c.in_ok-value.ensures in
    ap (λ v. v.items) c.into_bytes.ensures.value
    ∙ c.in_ok-to_string.ensures.text (ap has_float built ∙ has_float-reply_data c.args.reply.now)
    ∙ ap compact_text built
