-- What a peer comes to has one value with a server that is a function.
use Rattle.std.proofs.Common.{◌≡◌, inl, inr, ℕ, List, [], ◌∷◌, ◌++◌, Bool, true, false, Result, Ok, Err, refl, sym, ◌∙◌}
use Rattle.std.proofs.Common.{ap, subst, append_assoc}
use Rattle.std.proofs.lemmas.List.{append-nil}
use Rattle.zmtp_wire.specs.declared.handshake.socket_type.SocketType.{SocketType}
use Rattle.zmtp_wire.specs.declared.traffic.Traffic.{Traffic}
use Rattle.zmtp_wire.specs.declared.traffic.Traffic.TheVariants as traffic
use Rattle.zmtp_wire.specs.Limits.{usual_limits}
use Rattle.zmtp_wire.specs.Grammar.{ReadsUpTo}
use Rattle.zmtp_wire.specs.Traffic.{is_error}
use Rattle.zmtp_connection.specs.declared.end.ConnectionEnd.{ConnectionEnd}
use Rattle.zmtp_connection.specs.declared.end.ConnectionEnd.TheVariants.{Eof, Failed, Wire}
use Rattle.zmtp_connection.specs.declared.end.Ending.{Ending}
use Rattle.zmtp_connection.specs.declared.end.Ending.TheVariants.{Connection, Host}
use Rattle.zmtp_connection.specs.declared.server.Answered.{Answered}
use Rattle.zmtp_connection.specs.declared.server.Answered.TheVariants.{Done, Dropped}
use Rattle.zmtp_connection.specs.Peer.{BeginsWith, EndsAs, EndsBehind, IsCalm, IsTurnedAway}
use Rattle.zmtp_connection.specs.Steps.{TurnsAway}
use Rattle.zmtp_connection.specs.Listen.{RunsOut}
use Rattle.zmtp_connection.specs.Server.{Answering, AnswersAll, Converses, GoesOn, IsLast, Serving, Treats, begins}
use Rattle.zmtp_connection.specs.Server.{marked}
use Rattle.zmtp_connection.specs.Laws.{IsDone, IsFunction, IsSettled, IsSettledBy, ServesOnce}
use Rattle.zmtp_connection.proofs.HearOnce.{Laws, ends_without, no_more, calm_behind, behind_once, away_once}
use Rattle.zmtp_connection.proofs.HearOnce.{first_once, open_away}

-- one step
step_once : {Server End : Type 0} (settles : End → Bool) (answers : Answering Server End) → IsFunction settles answers
    → (state one other : Server)
    (item : Traffic) (reply also : List ℕ) (first second : Result Answered End) → IsDone settles first
    → IsDone settles second
    → Treats answers state item reply one first → Treats answers state item also other second
    → (reply ≡ also) × (one ≡ other) × (first ≡ second)
step_once settles answers once state one other (traffic.Message message) reply also first second done did a b =
    once state one other message reply also first second done did a b
step_once settles answers once state one other (traffic.Command name rest) reply also first second done did
    (pong, stays, is) (other_pong, keeps, same) =
    (pong ∙ sym other_pong, stays ∙ sym keeps, is ∙ sym same)

-- nothing was dropped, and so it wasn't before
pub unmarked : {End : Type 0} (settles : End → Bool) (before : Bool) (answered : Answered) (after : Bool)
    → after ≡ marked {End = End} before (Ok answered) → after ≡ false
    → (before ≡ false) × IsDone settles (Ok answered)
unmarked settles before Done after mark none = (sym mark ∙ none, tt)
unmarked settles before Dropped after mark none = absurd (let e : true ≡ false = sym mark ∙ none in cc)

pub undropped : {Server End : Type 0} (answers : Answering Server End) (old new : Serving Server)
    (items : List Traffic) (replies : List ℕ) → AnswersAll (GoesOn answers) old items replies new
    → new.dropped ≡ false → old.dropped ≡ false
undropped answers old new [] replies (none, same) kept = ap (λ (s : Serving _). s.dropped) (sym same) ∙ kept
undropped {End = End} answers old new (first ∷ items) replies (middle, reply, later, (answered, step, mark), rest, is)
    kept =
    (unmarked {End = End} (λ end. true) old.dropped answered middle.dropped mark
    (undropped answers middle new items later rest kept)).0

same_serving : {Server : Type 0} (one other : Serving Server) → one.server ≡ other.server → one.dropped ≡ other.dropped
    → one ≡ other
same_serving one other same kept =
    ap (λ s. record { server = s; dropped = one.dropped }) same
    ∙ ap (λ d. record { server = other.server; dropped = d }) kept

-- traffic that is answered in turn
all_once : {Server End : Type 0} (settles : End → Bool) (answers : Answering Server End) → IsFunction settles answers
    → (old one other : Serving Server)
    (items : List Traffic) (replies also : List ℕ) → AnswersAll (GoesOn answers) old items replies one
    → AnswersAll (GoesOn answers) old items also other → one.dropped ≡ false → other.dropped ≡ false
    → (replies ≡ also) × (one ≡ other)
all_once settles answers once old one other [] replies also (none, same) (nothing, keeps) kept stays =
    (none ∙ sym nothing, same ∙ sym keeps)
all_once settles answers once old one other (first ∷ items) replies also
    (middle, reply, later, (answered, step, mark), rest, is)
    (between, back, others, (did, took, marks), more, same) kept stays =
    let calm = undropped answers middle one items later rest kept in
    let quiet = undropped answers between other items others more stays in
    let (replied, state, answer) = step_once settles answers once old.server middle.server between.server first reply
    back
    (Ok answered) (Ok did) (unmarked settles old.dropped answered middle.dropped mark calm).1
    (unmarked settles old.dropped did between.dropped marks quiet).1 step took in
    let is_open : middle ≡ between = same_serving middle between state (calm ∙ sym quiet) in
    let (rests, new) = all_once settles answers once middle one other items later others rest
    (subst (λ s. AnswersAll (GoesOn answers) s items others other) (sym is_open) more) kept stays in (
      is ∙ ap (λ o. o ++ later) replied ∙ ap (λ o. back ++ o) rests ∙ sym same,
      new,
    )

-- traffic that is answered in turn, in two parts
split_all : {State : Type 0} (answers : State → Traffic → List ℕ → State → Type 0) (old new : State)
    (front more : List Traffic) (replies : List ℕ) → AnswersAll answers old (front ++ more) replies new
    → (middle : State) × (one : List ℕ) × (other : List ℕ) × AnswersAll answers old front one middle
    × AnswersAll answers middle more other new
split_all answers old new [] more replies all = (old, [], replies, (refl, refl), all)
split_all answers old new (first ∷ front) more replies (middle, reply, later, step, rest, is) =
    let (state, one, other, a, b) = split_all answers middle new front more later rest in
    (state, reply ++ one, other, (middle, reply, one, step, a, refl), b)

-- how a session ends that listening ended with nothing wanting
pub ends_settled : (rest : List ℕ) (end : ConnectionEnd) → IsSettled end → RunsOut rest end → EndsBehind rest end
ends_settled rest end settled (inl (inl (inl is), unfinished)) = inr (subst (EndsAs rest) (sym is) unfinished)
ends_settled rest end settled (inl (inl (inr (inl is)), unfinished)) = absurd (subst IsSettled is settled)
ends_settled rest end settled (inl (inl (inr (inr is)), unfinished)) = absurd (subst IsSettled is settled)
ends_settled rest end settled (inl (inr is, unfinished)) = absurd (subst IsSettled is settled)
ends_settled rest end settled (inr (fault, is, inl memory)) = absurd (subst IsSettled is settled memory)
ends_settled rest end settled (inr (fault, is, inr ends)) = ends

-- how the connection ended a session with nothing wanting
record RanOut {End : Type 0} (rest : List ℕ) (ending : Ending End) : Type 0 where
  end : ConnectionEnd
  is : ending ≡ Connection end
  ends : EndsBehind rest end

ran_out : {End : Type 0} (settles : End → Bool) (rest : List ℕ) (ending : Ending End) (end : ConnectionEnd)
    → IsSettledBy settles ending → ending ≡ Connection end → RunsOut rest end → RanOut rest ending
ran_out settles rest ending end settled is runs = record {
  end = end;
  is = is;
  ends = ends_settled rest end (subst (IsSettledBy settles) is settled) runs;
}

-- octets that end a connection don't begin with other traffic
no_last : (laws : Laws) (rest : List ℕ) (end : ConnectionEnd) (last : Traffic) → EndsBehind rest end
    → BeginsWith rest last → is_error last ≡ false → ⊥
no_last laws rest end last (inr ends) comes harmless =
    ends_without laws rest end ends last comes.front comes.behind comes.split comes.spelled
no_last laws rest end last (inl (is, (first, begin, error))) comes harmless =
    let (same, behind) = laws.front usual_limits rest begin.front comes.front first last begin.behind comes.behind
    begin.split begin.spelled comes.split comes.spelled in
    let e : true ≡ false = sym error ∙ ap is_error same ∙ harmless in
    absurd (cc)

-- how a server ended a session
record Left {Server End : Type 0} (settles : End → Bool) (answers : Answering Server End) (now new : Serving Server)
    (rest replies written : List ℕ) (ending : Ending End) (last : IsLast answers now rest replies written new ending)
    : Type 0 where
  end : End
  answered : last.answered ≡ Err end
  is : ending ≡ Host end
  wrote : written ≡ replies ++ last.reply
  done : IsDone settles last.answered

-- a server that ended a session replied so
left : {Server End : Type 0} (settles : End → Bool) (answers : Answering Server End) (now new : Serving Server)
    (rest replies written : List ℕ) (ending : Ending End) → IsSettledBy settles ending
    → (last : IsLast answers now rest replies written new ending)
    → Left settles answers now new rest replies written ending last
left settles answers now new rest replies written ending settled last = elim last.how [
  | inl (end, answered, is, wrote) ↦ record {
    end = end;
    answered = answered;
    is = is;
    wrote = wrote;
    done = subst (IsDone settles) (sym answered) (subst (IsSettledBy settles) is settled);
  }
  | inr (is, breaks) ↦ absurd (subst (IsSettledBy settles) is settled)
]

-- nothing was dropped by then
left_kept : {Server End : Type 0} (settles : End → Bool) (answers : Answering Server End) (now : Serving Server)
    (new : Server) (rest replies written : List ℕ) (ending : Ending End) → IsSettledBy settles ending
    → (last : IsLast answers now rest replies written (record { server = new; dropped = false }) ending)
    → now.dropped ≡ false
left_kept settles answers now new rest replies written ending settled last =
    let gone = left settles answers now (record { server = new; dropped = false }) rest replies written ending settled
    last in
    sym (last.mark ∙ ap (marked now.dropped) gone.answered)

-- what a session came to, and nothing was dropped
abbrev Talk : {Server End : Type 0} → Answering Server End → Server → List ℕ → List ℕ → Server → Ending End → Type 0
Talk answers old octets written new ending = Converses false answers old octets written new ending

-- nothing was dropped by the traffic that was answered
talk_kept : {Server End : Type 0} (settles : End → Bool) (answers : Answering Server End) (old : Server)
    (octets written : List ℕ) (new : Server) (ending : Ending End) → IsSettledBy settles ending
    → (talk : Talk answers old octets written new ending) → talk.now.dropped ≡ false
talk_kept settles answers old octets written new ending settled talk = elim talk.ends [
  | inl (end, ends, runs, wrote, is) ↦ ap (λ (s : Serving _). s.dropped) is
  | inr last ↦ left_kept settles answers talk.now new talk.rest talk.replies written ending settled last
]

-- a server that ended a session at one traffic didn't go on behind it
stuck : {Server End : Type 0} (laws : Laws) (settles : End → Bool) (answers : Answering Server End)
    → IsFunction settles answers → (old : Serving Server) (now new : Serving Server) (items : List Traffic)
    (rest replies written : List ℕ) (ending : Ending End) → IsSettledBy settles ending → now.dropped ≡ false
    → AnswersAll (GoesOn answers) old items replies now → IsLast answers now rest replies written new ending
    → (next : Traffic) (more : List Traffic) (behind : List ℕ)
    → ReadsUpTo usual_limits rest (next ∷ more) behind → (also : List ℕ) (other : Serving Server)
    → AnswersAll (GoesOn answers) old (items ++ next ∷ more) also other → other.dropped ≡ false → ⊥
stuck laws settles answers once old now new items rest replies written ending settled kept all last next more behind
    (read, split, (front, tail, parts, spelled, reads)) also other others quiet =
    let (middle, one, two, begun, (state, reply, later, (answered, step, mark), went, is)) =
    split_all (GoesOn answers) old other items (next ∷ more) also others in
    let calm = undropped answers state other more later went quiet in
    let (before, done) = unmarked settles middle.dropped answered state.dropped mark calm in
    let (replied, same) = all_once settles answers once old now middle items replies one all begun kept before in
    let (item, rests) = laws.front usual_limits rest last.comes.front front last.last next last.comes.behind
    (tail ++ behind) last.comes.split last.comes.spelled
    (split ∙ ap (λ o. o ++ behind) parts ∙ append_assoc front tail behind) spelled in
    let gone = left settles answers now new rest replies written ending settled last in
    let step' : Treats answers now.server last.last reply state.server (Ok answered) =
    subst (λ (s : Serving _). Treats answers s.server last.last reply state.server (Ok answered)) (sym same)
    (subst (λ t. Treats answers middle.server t reply state.server (Ok answered)) (sym item) step) in
    let (replied', became, answer) = step_once settles answers once now.server new.server state.server last.last
    last.reply reply last.answered (Ok answered) gone.done done last.step step' in
    let e = sym gone.answered ∙ answer in
    absurd (cc)

-- the conclusion
record Same {Server End : Type 0} (written also : List ℕ) (one other : Server) (ending end : Ending End)
    : Type 0 where
  wrote : written ≡ also
  server : one ≡ other
  ends : ending ≡ end

-- two sessions, of which both ended with what was said
both_out : {Server End : Type 0} (laws : Laws) (settles : End → Bool) (answers : Answering Server End)
    → IsFunction settles answers → (old one other : Server) (octets written also : List ℕ) (ending end : Ending End)
    → IsSettledBy settles ending → IsSettledBy settles end
    → (first : Talk answers old octets written one ending) (second : Talk answers old octets also other end)
    → first.traffic ≡ second.traffic → first.rest ≡ second.rest → RanOut first.rest ending → RanOut second.rest end
    → written ≡ first.replies → first.now ≡ record { server = one; dropped = false } → also ≡ second.replies
    → second.now ≡ record { server = other; dropped = false } → Same written also one other ending end
both_out laws settles answers once old one other octets written also ending end settled quiet first second items rests
    runs out wrote is wrote' is' =
    let all = subst (λ t. AnswersAll (GoesOn answers) (begins old) t first.replies first.now) items first.answered in
    let (replies, state) = all_once settles answers once (begins old) first.now second.now second.traffic first.replies
    second.replies all second.answered (talk_kept settles answers old octets written one ending settled first)
    (talk_kept settles answers old octets also other end quiet second) in
    record {
      wrote = wrote ∙ replies ∙ sym wrote';
      server = ap (λ (s : Serving _). s.server) (sym is ∙ state ∙ is');
      ends = runs.is ∙ ap Connection (behind_once laws first.rest runs.end out.end runs.ends
          (subst (λ r. EndsBehind r out.end) (sym rests) out.ends)) ∙ sym out.is;
    }

-- two sessions, which the server ended
both_last : {Server End : Type 0} (laws : Laws) (settles : End → Bool) (answers : Answering Server End)
    → IsFunction settles answers → (old one other : Server) (octets written also : List ℕ) (ending end : Ending End)
    → IsSettledBy settles ending → IsSettledBy settles end → (first : Talk answers old octets written one ending)
    (second : Talk answers old octets also other end)
    → first.traffic ≡ second.traffic → first.rest ≡ second.rest
    → IsLast answers first.now first.rest first.replies written (record { server = one; dropped = false }) ending
    → IsLast answers second.now second.rest second.replies also (record { server = other; dropped = false }) end
    → Same written also one other ending end
both_last laws settles answers once old one other octets written also ending end settled quiet first second items rests
    last final =
    let all = subst (λ t. AnswersAll (GoesOn answers) (begins old) t first.replies first.now) items first.answered in
    let (replies, state) = all_once settles answers once (begins old) first.now second.now second.traffic first.replies
    second.replies all second.answered (talk_kept settles answers old octets written one ending settled first)
    (talk_kept settles answers old octets also other end quiet second) in
    let gone = left settles answers first.now (record { server = one; dropped = false }) first.rest first.replies
    written ending settled last in
    let went = left settles answers second.now (record { server = other; dropped = false }) second.rest
    second.replies also end quiet final in
    let (item, behind) = laws.front usual_limits first.rest last.comes.front final.comes.front last.last final.last
    last.comes.behind final.comes.behind last.comes.split last.comes.spelled (rests ∙ final.comes.split)
    final.comes.spelled in
    let step : Treats answers first.now.server last.last final.reply other final.answered =
    subst (λ (s : Serving _). Treats answers s.server last.last final.reply other final.answered) (sym state)
    (subst (λ t. Treats answers second.now.server t final.reply other final.answered) (sym item) final.step) in
    let (replied, became, answer) = step_once settles answers once first.now.server one other last.last last.reply
    final.reply last.answered final.answered gone.done went.done last.step step in
    record {
      wrote = gone.wrote ∙ ap (λ o. o ++ last.reply) replies ∙ ap (λ o. second.replies ++ o) replied
          ∙ sym went.wrote;
      server = became;
      ends = let e = sym gone.answered ∙ answer ∙ went.answered in
          let same : gone.end ≡ went.end = cc in
          gone.is ∙ ap Host same ∙ sym went.is;
    }

-- the first ended with what was said
less_out : {Server End : Type 0} (laws : Laws) (settles : End → Bool) (answers : Answering Server End)
    → IsFunction settles answers → (old one other : Server) (octets written also : List ℕ) (ending end : Ending End)
    → IsSettledBy settles ending → IsSettledBy settles end
    → (first : Talk answers old octets written one ending) (second : Talk answers old octets also other end)
    (more : List Traffic) → second.traffic ≡ first.traffic ++ more
    → ReadsUpTo usual_limits first.rest more second.rest → RanOut first.rest ending → written ≡ first.replies
    → first.now ≡ record { server = one; dropped = false } → Same written also one other ending end
less_out laws settles answers once old one other octets written also ending end settled quiet first second more is reads
    runs wrote same =
    let (none, rests) = no_more laws first.rest second.rest runs.end more runs.ends reads
    (calm_behind first.traffic more (subst IsCalm is second.calm)) in
    let items : first.traffic ≡ second.traffic = sym (is ∙ ap (λ t. first.traffic ++ t) none
    ∙ append-nil first.traffic) in
    elim second.ends [
      | inl (out, ends, ran, wrote', same') ↦
          both_out laws settles answers once old one other octets written also ending end settled quiet first second
          items rests runs (ran_out settles second.rest end out quiet ends ran) wrote same wrote' same'
      | inr last ↦ absurd (no_last laws second.rest runs.end last.last
          (subst (λ r. EndsBehind r runs.end) rests runs.ends) last.comes last.harmless)
    ]

-- the server ended the first
less_last : {Server End : Type 0} (laws : Laws) (settles : End → Bool) (answers : Answering Server End)
    → IsFunction settles answers → (old one other : Server) (octets written also : List ℕ) (ending end : Ending End)
    → IsSettledBy settles ending → IsSettledBy settles end → (first : Talk answers old octets written one ending)
    (second : Talk answers old octets also other end)
    (more : List Traffic) → second.traffic ≡ first.traffic ++ more
    → ReadsUpTo usual_limits first.rest more second.rest
    → IsLast answers first.now first.rest first.replies written (record { server = one; dropped = false }) ending
    → Same written also one other ending end
less_last laws settles answers once old one other octets written also ending end settled quiet first second [] is
    (read, split, none) last =
    let rests : first.rest ≡ second.rest = split ∙ ap (λ o. o ++ second.rest) none in
    let items : first.traffic ≡ second.traffic = sym (is ∙ append-nil first.traffic) in
    elim second.ends [
      | inl (out, ends, ran, wrote, same) ↦
          let over = ran_out settles second.rest end out quiet ends ran in
          absurd (no_last laws first.rest over.end last.last (subst (λ r. EndsBehind r over.end) (sym rests) over.ends)
          last.comes last.harmless)
      | inr final ↦
          both_last laws settles answers once old one other octets written also ending end settled quiet first second
          items rests last final
    ]
less_last laws settles answers once old one other octets written also ending end settled quiet first second
    (next ∷ more) is reads last =
    absurd (stuck laws settles answers once (begins old) first.now (record { server = one; dropped = false })
    first.traffic first.rest first.replies written ending settled
    (talk_kept settles answers old octets written one ending settled first) first.answered last next more second.rest
    reads second.replies second.now
    (subst (λ t. AnswersAll (GoesOn answers) (begins old) t second.replies second.now) is second.answered)
    (talk_kept settles answers old octets also other end quiet second))

-- of two sessions, the second goes on where the first ended
talk_less : {Server End : Type 0} (laws : Laws) (settles : End → Bool) (answers : Answering Server End)
    → IsFunction settles answers → (old one other : Server) (octets written also : List ℕ) (ending end : Ending End)
    → IsSettledBy settles ending → IsSettledBy settles end → (first : Talk answers old octets written one ending)
    (second : Talk answers old octets also other end)
    (more : List Traffic) → second.traffic ≡ first.traffic ++ more
    → ReadsUpTo usual_limits first.rest more second.rest → Same written also one other ending end
talk_less laws settles answers once old one other octets written also ending end settled quiet first second more is
    reads =
    elim first.ends [
      | inl (out, ends, ran, wrote, same) ↦
          less_out laws settles answers once old one other octets written also ending end settled quiet first second
          more is reads (ran_out settles first.rest ending out settled ends ran) wrote same
      | inr last ↦
          less_last laws settles answers once old one other octets written also ending end settled quiet first second
          more is reads last
    ]

talk_once : {Server End : Type 0} (laws : Laws) (settles : End → Bool) (answers : Answering Server End)
    → IsFunction settles answers → (old one other : Server) (octets written also : List ℕ) (ending end : Ending End)
    → IsSettledBy settles ending → IsSettledBy settles end → Talk answers old octets written one ending
    → Talk answers old octets also other end → Same written also one other ending end
talk_once laws settles answers once old one other octets written also ending end settled quiet first second =
    elim (laws.goes_on usual_limits octets first.traffic second.traffic first.rest second.rest first.read second.read) [
      | inl (more, is, reads) ↦
          talk_less laws settles answers once old one other octets written also ending end settled quiet first second
          more is reads
      | inr (more, is, reads) ↦
          let same = talk_less laws settles answers once old other one octets also written end ending quiet settled
          second first more is reads in
          record { wrote = sym same.wrote; server = sym same.server; ends = sym same.ends }
    ]

-- a peer that was turned away with nothing wanting
away_settled : (ours : SocketType) (octets written : List ℕ) (end : ConnectionEnd) → IsSettled end
    → TurnsAway ours end octets written → IsTurnedAway ours octets written end
away_settled ours octets written Eof settled away = away
away_settled ours octets written (Wire fault) settled (inl (memory, cut)) = absurd (settled memory)
away_settled ours octets written (Wire fault) settled (inr away) = away
away_settled ours octets written (Failed fault) settled away = absurd settled

pub serves_once : {Server End : Type 0} → Laws → (answers : Answering Server End) → ServesOnce answers
serves_once laws answers settles once ours old one other octets written also ending end settled quiet
    (inl (out, is, away, stays, none)) (inl (over, same, gone, keeps, nothing)) =
    let (wrote, ends) = away_once laws ours octets written also out over
    (away_settled ours octets written out (subst (IsSettledBy settles) is settled) away)
    (away_settled ours octets also over (subst (IsSettledBy settles) same quiet) gone) in
    (wrote, stays ∙ sym keeps, is ∙ ap Connection ends ∙ sym same)
serves_once laws answers settles once ours old one other octets written also ending end settled quiet
    (inl (out, is, away, stays, none)) (inr served) =
    absurd (open_away laws ours octets served.opening written served.peer served.behind out served.is_open
    (away_settled ours octets written out (subst (IsSettledBy settles) is settled) away))
serves_once laws answers settles once ours old one other octets written also ending end settled quiet
    (inr served) (inl (over, same, gone, keeps, nothing)) =
    absurd (open_away laws ours octets served.opening also served.peer served.behind over served.is_open
    (away_settled ours octets also over (subst (IsSettledBy settles) same quiet) gone))
serves_once laws answers settles once ours old one other octets written also ending end settled quiet (inr served)
    (inr others) =
    let (item, behind) = first_once laws octets served.is_open.first others.is_open.first served.behind others.behind
    served.is_open.comes others.is_open.comes in
    let same = talk_once laws settles answers once old one other served.behind served.replies others.replies ending end
    settled quiet served.converses
    (subst (λ o. Talk answers old o others.replies other end) (sym behind) others.converses) in
    let openings : served.opening ≡ others.opening =
    served.is_open.greeted.greets ∙ sym others.is_open.greeted.greets in (
      served.all ∙ ap (λ o. o ++ served.replies) openings ∙ ap (λ o. others.opening ++ o) same.wrote ∙ sym others.all,
      same.server,
      same.ends,
    )
