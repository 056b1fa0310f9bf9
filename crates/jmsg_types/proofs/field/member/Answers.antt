use Rattle.jmsg_types.proofs.MemberLemmas.{member-lent}
use Rattle.jmsg_types.proofs.field.member.Goals as goal

pub returns : goal.returns
returns c = member-lent c.args.name.now c.args.members.now.entries c.get.result c.get.ensures.value
