use Rattle.std.proofs.Common.{◌≡◌, drop, map}
use Rattle.serde_json.specs.View.{members_view}
use Rattle.jmsg_types.specs.Content.{with_texts}
use Rattle.jmsg_types.proofs.content.put_texts.Given as goal

abbrev pub invariant-loop-key : goal.invariant-loop-key
invariant-loop-key l =
    with_texts (map (λ text. (text.0.now, text.1.now)) (drop l.key-index l.texts)) (members_view l.members.entries)
    ≡ with_texts (map (λ text. (text.0.now, text.1.now)) l.texts) (members_view l.fn.members.entries)
