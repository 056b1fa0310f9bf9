use Rattle.std.proofs.Common.{◌≡◌, drop, map}
use Rattle.serde_json.specs.Data.{no_members}
use Rattle.serde_json.specs.View.{members_view}
use Rattle.jmsg_envelope.specs.Header.{texts_by_key}
use Rattle.jmsg_envelope.proofs.header.texts_by_key.Given as goal

abbrev pub invariant-loop-key : goal.invariant-loop-key
invariant-loop-key l =
    texts_by_key (map (λ text. (text.0.now, text.1.now)) (drop l.key-index l.texts)) (members_view l.members.entries)
    ≡ texts_by_key (map (λ text. (text.0.now, text.1.now)) l.texts) no_members
