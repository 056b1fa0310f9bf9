-- What a peer comes to that ended its session, whatever it sends then.
use Rattle.std.proofs.Common.{◌≢◌, inl, inr, ℕ, List, ◌++◌, ap, append_assoc, ◌∙◌, subst, false, refl}
use Rattle.zmtp_wire.specs.declared.handshake.socket_type.SocketType.{SocketType}
use Rattle.zmtp_connection.specs.declared.end.ConnectionEnd.{ConnectionEnd}
use Rattle.zmtp_connection.specs.declared.end.ConnectionEnd.TheVariants.{Eof, Failed, Wire}
use Rattle.zmtp_connection.specs.declared.end.Ending.{Ending}
use Rattle.zmtp_connection.specs.Steps.{TurnsAway}
use Rattle.zmtp_connection.specs.Listen.{RunsOut}
use Rattle.zmtp_connection.specs.Server.{Answering, Converses, IsLast, Serving}
use Rattle.zmtp_connection.specs.Laws.{IsFinal, IsSettled, ServesOn}
use Rattle.zmtp_connection.proofs.HearOnce.{Laws, away_more, ends_more, reads_more}
use Rattle.zmtp_connection.proofs.OpenLemmas.{open_more}

away_stays : Laws → (ours : SocketType) (octets after written : List ℕ) (end : ConnectionEnd) → IsSettled end
    → end ≢ Eof → TurnsAway ours end octets written → TurnsAway ours end (octets ++ after) written
away_stays laws ours octets after written Eof settled ended away = absurd (ended refl)
away_stays laws ours octets after written (Wire fault) settled ended (inl (memory, cut)) = absurd (settled memory)
away_stays laws ours octets after written (Wire fault) settled ended (inr away) =
    inr (away_more laws ours octets after written (Wire fault) ended away)
away_stays laws ours octets after written (Failed fault) settled ended away = absurd settled

runs_stays : Laws → (rest after : List ℕ) (end : ConnectionEnd) → IsSettled end → end ≢ Eof → RunsOut rest end
    → RunsOut (rest ++ after) end
runs_stays laws rest after end settled ended (inl (inl (inl is), unfinished)) = absurd (ended is)
runs_stays laws rest after end settled ended (inl (inl (inr (inl is)), unfinished)) =
    absurd (subst IsSettled is settled)
runs_stays laws rest after end settled ended (inl (inl (inr (inr is)), unfinished)) =
    absurd (subst IsSettled is settled)
runs_stays laws rest after end settled ended (inl (inr is, unfinished)) = absurd (subst IsSettled is settled)
runs_stays laws rest after end settled ended (inr (fault, is, inl memory)) =
    absurd (subst IsSettled is settled memory)
runs_stays laws rest after end settled ended (inr (fault, is, inr ends)) =
    inr (fault, is, inr (ends_more laws rest after end ended ends))

last_stays : {Server End : Type 0} (answers : Answering Server End) (now : Serving Server)
    (rest after replies written : List ℕ) (new : Serving Server) (ending : Ending End)
    → IsLast answers now rest replies written new ending → IsLast answers now (rest ++ after) replies written new ending
last_stays answers now rest after replies written new ending last = record {
  last = last.last;
  comes = record {
    front = last.comes.front;
    behind = last.comes.behind ++ after;
    split = ap (λ o. o ++ after) last.comes.split ∙ append_assoc last.comes.front last.comes.behind after;
    spelled = last.comes.spelled;
  };
  harmless = last.harmless;
  reply = last.reply;
  answered = last.answered;
  step = last.step;
  mark = last.mark;
  how = last.how;
}

talk_stays : {Server End : Type 0} → Laws → (answers : Answering Server End) (old : Server)
    (octets after written : List ℕ) (new : Server) (ending : Ending End) → IsFinal ending
    → Converses false answers old octets written new ending
    → Converses false answers old (octets ++ after) written new ending
talk_stays laws answers old octets after written new ending final talk = record {
  traffic = talk.traffic;
  rest = talk.rest ++ after;
  read = reads_more octets after talk.traffic talk.rest talk.read;
  calm = talk.calm;
  now = talk.now;
  replies = talk.replies;
  answered = talk.answered;
  ends = elim talk.ends [
    | inl (end, ends, runs, wrote, is) ↦
        let (settled, ended) = subst IsFinal ends final in
        inl (end, ends, runs_stays laws talk.rest after end settled ended runs, wrote, is)
    | inr last ↦ inr (last_stays answers talk.now talk.rest after talk.replies written
        (record { server = new; dropped = false }) ending last)
  ];
}

pub serves_on : {Server End : Type 0} → Laws → (answers : Answering Server End) → ServesOn answers
serves_on laws answers ours old new octets after written ending final (inl (end, ends, away, same, none)) =
    let (settled, ended) = subst IsFinal ends final in
    inl (end, ends, away_stays laws ours octets after written end settled ended away, same, none)
serves_on laws answers ours old new octets after written ending final (inr served) = inr (record {
  opening = served.opening;
  peer = served.peer;
  behind = served.behind ++ after;
  replies = served.replies;
  is_open = open_more ours octets after served.opening served.peer served.behind served.is_open;
  converses = talk_stays laws answers old served.behind after served.replies new ending final served.converses;
  all = served.all;
})
