use Rattle.serde_json.specs.View.{members_view}
use Rattle.jmsg_types.specs.Field.{texts_of}
use Rattle.jmsg_types.proofs.TextLemmas.{AreLeft}
use Rattle.jmsg_types.proofs.field.owned_texts.Given as goal

abbrev pub invariant-loop-name : goal.invariant-loop-name
invariant-loop-name l = AreLeft (texts_of (members_view l.fn.members.entries)) l.texts.items l.name-iterator
