use Rattle.std.proofs.lemmas.Bool.{false≢true}
use Rattle.jmsg_types.proofs.ContentLemmas.{members_answer, members_in-unread}
use Rattle.jmsg_types.proofs.request.read_members.Goals as goal

pub returns-in-Ok : goal.returns-in-Ok
returns-in-Ok c =
    members_answer c.args.content.now _ _ _ c.in-Ok.ensures.ok.0 c.in-Ok.ensures.ok.1 c.into_members.ensures
    c.ok_or.ensures.value

pub returns-in-Err-2 : goal.returns-in-Err-2
returns-in-Err-2 c =
    members_in-unread c.args.content.now
    (c.in-Err.ensures.err (λ memory. false≢true (c.if-is_memory.ensures.1 memory)))
