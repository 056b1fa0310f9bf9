use Rattle.std.proofs.Common.{ap, ◌∙◌}
use Rattle.serde_json.specs.Find.{get_member}
use Rattle.serde_json.specs.View.{members_view}
use Rattle.jmsg_types.proofs.MemberLemmas.{member-value, get_member-remove_entry}
use Rattle.jmsg_types.proofs.field.take_member.Goals as goal

pub returns-clause-found : goal.returns-clause-found
returns-clause-found c = member-value c.args.name.now c.args.members.now.entries c.remove.result c.remove.ensures.value

pub returns-clause-others : goal.returns-clause-others
returns-clause-others c =
    λ other differ. ap (λ entries. get_member other (members_view entries)) c.remove.ensures.entries
    ∙ get_member-remove_entry c.args.name.now other c.args.members.now.entries differ
