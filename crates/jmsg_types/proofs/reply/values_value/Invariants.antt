use Rattle.std.proofs.Common.{◌≡◌, drop}
use Rattle.serde_json.specs.Data.{no_members}
use Rattle.serde_json.specs.View.{members_view}
use Rattle.jmsg_types.specs.Reply.{values_members}
use Rattle.jmsg_types.proofs.reply.values_value.Given as goal

abbrev pub invariant-loop-name : goal.invariant-loop-name
invariant-loop-name l =
    values_members (drop l.name-index l.values) (members_view l.members.entries) ≡ values_members l.values no_members
