-- A session has one value for given courses and dates.
use Rattle.std.proofs.Common.{◌≡◌, inl, inr, ℕ, ◌+◌, List, ◌∷◌, ◌++◌, Some, None, Ok, Err, refl, sym}
use Rattle.std.proofs.Common.{◌∙◌, ap, subst}
use Rattle.interp_core.specs.Interpreter.{Meaning}
use Rattle.jmsg_envelope.specs.Laws.{OpenedOnce, RefusedIsNotOpened}
use Rattle.jmsg_envelope.specs.declared.envelope.Envelope.{Envelope}
use Rattle.jmsg_types.specs.declared.publication.Publication.{Publication}
use Rattle.kernel_engine.specs.Answer.{Answer, AnswersRequest}
use Rattle.kernel_engine.specs.Block.{Message, block, reply_message}
use Rattle.kernel_engine.specs.Laws.{AnswersOnce, PublishesOnce}
use Rattle.kernel_engine.specs.Opens.{ids_of_reply}
use Rattle.kernel_engine.specs.Publications.{Publishes}
use Rattle.kernel_engine.specs.Comes.{message_comes}
use Rattle.kernel_engine.specs.Orders.{ends}
use Rattle.kernel_session.specs.declared.end.SessionEnd.TheVariants.{Shutdown}
use Rattle.zmtp_connection.specs.declared.server.Answered.TheVariants.{Done, Dropped}
use Rattle.zmtp_connection.specs.Laws.{IsFunction}
use Rattle.kernel_session.specs.Laws.{ends_as_asked}
use Rattle.kernel_session.specs.Session.{DoesMessage, DoesRequest, DropsMessage, Performs, Run, Setting, EngineStanding}
use Rattle.kernel_session.specs.Session.{heading_by, number_behind, reply_text}

-- the laws of the layers below
pub record RequestLaws {State Cell : Type 0} (m : Meaning State Cell) : Type 0 where
  pub opened : OpenedOnce
  pub refused : RefusedIsNotOpened
  pub publishes : PublishesOnce m
  pub answers : AnswersOnce m

module _ {State Cell : Type 0} (m : Meaning State Cell) (laws : RequestLaws m) (may : Type 0) (setting : Setting) where
  -- what an engine has come to behind a request
  abbrev became : EngineStanding State → Envelope → Run State → List Publication → Answer State → List (Run State)
      → EngineStanding State
  became old request run publications answer later = record {
    state = answer.state;
    count = answer.count;
    next = number_behind old.next publications + ids_of_reply answer.reply;
    published = old.published ++ block setting.sealing (heading_by run request) old.next publications;
    runs = later;
  }

  -- a request is done in one way by the next run
  record SameDone (answer other : Answer State) (reply also : List ℕ) (one two : EngineStanding State) : Type 0 where
    answers : answer ≡ other
    replies : reply ≡ also
    standings : one ≡ two

  request_once : (old one two : EngineStanding State) (request : Envelope) (answer other : Answer State)
      (reply also : List ℕ) → DoesRequest m may setting old request answer reply one
      → DoesRequest m may setting old request other also two → SameDone answer other reply also one two
  request_once old one two request answer other reply also a b =
      let runs : a.run ∷ one.runs ≡ b.run ∷ two.runs = sym a.runs ∙ b.runs in
      let run : a.run ≡ b.run = let e = runs in cc in
      let later : one.runs ≡ two.runs = let e = runs in cc in
      let does = message_comes setting.side request in
      let published = laws.publishes does old.state old.count a.run.course a.publications b.publications a.publishes
      (subst (λ (r : Run State). Publishes m does old.state old.count r.course b.publications) (sym run)
      b.publishes) in
      let answered = laws.answers does old.state old.count a.run.course
      answer other a.answers
      (subst (λ (r : Run State). AnswersRequest m does old.state old.count
      r.course other) (sym run) b.answers) in
      record {
        answers = answered;
        replies = a.replied
            ∙ ap (λ (r : Run State). reply_text (reply_message setting.sealing (heading_by r request)
            request.identities (number_behind old.next a.publications) request.msg_type answer.reply)) run
            ∙ ap (λ p. reply_text (reply_message setting.sealing (heading_by b.run request) request.identities
            (number_behind old.next p) request.msg_type answer.reply)) published
            ∙ ap (λ (n : Answer State). reply_text (reply_message setting.sealing (heading_by b.run request)
            request.identities (number_behind old.next b.publications) request.msg_type n.reply)) answered
            ∙ sym b.replied;
        standings = a.became
            ∙ ap (λ (n : Answer State). became old request a.run a.publications n one.runs) answered
            ∙ ap (λ r. became old request r a.publications other one.runs) run
            ∙ ap (λ p. became old request b.run p other one.runs) published
            ∙ ap (became old request b.run b.publications other) later
            ∙ sym b.became;
      }

  message_once : (old one two : EngineStanding State) (message : Message) (reply also : List ℕ)
      (a : DoesMessage m may setting old message reply one) (b : DoesMessage m may setting old message also two)
      → SameDone a.answer b.answer reply also one two
  message_once old one two message reply also a b =
      let same = laws.opened setting.sealing.key message a.request b.request a.opened b.opened in
      request_once old one two a.request a.answer b.answer reply also a.does
      (subst (λ (r : Envelope). DoesRequest m may setting old r b.answer also two) (sym same) b.does)

  -- a message isn't both dropped and done
  not_both : (old one two : EngineStanding State) (message : Message) (reply also : List ℕ)
      → DropsMessage m may setting old message reply one → DoesMessage m may setting old message also two → ⊥
  not_both old one two message reply also ((fault, refused), none, same) done =
      laws.refused setting.sealing.key message done.request fault refused done.opened

  pub performs_once : IsFunction ends_as_asked (Performs m may setting)
  performs_once old one two message reply also (Ok Done) (Ok Done) is will (inl (a, none, same))
      (inl (b, nothing, keeps)) =
      (none ∙ sym nothing, same ∙ sym keeps, refl)
  performs_once old one two message reply also (Ok Done) (Ok Done) is will (inl drops) (inr (done, goes)) =
      absurd (not_both old one two message reply also drops done)
  performs_once old one two message reply also (Ok Done) (Ok Done) is will (inr (done, goes)) (inl drops) =
      absurd (not_both old two one message also reply drops done)
  performs_once old one two message reply also (Ok Done) (Ok Done) is will (inr (a, goes)) (inr (b, on)) =
      let same = message_once old one two message reply also a b in (same.replies, same.standings, refl)
  performs_once old one two message reply also (Ok Dropped) second is will first other = absurd is
  performs_once old one two message reply also (Ok Done) (Ok Dropped) is will first other = absurd will
  performs_once old one two message reply also (Err end) (Ok Dropped) is will first other = absurd will
  performs_once old one two message reply also (Ok Done) (Err end) is will (inl drops) (done, again, asked, how) =
      absurd (not_both old one two message reply also drops done)
  performs_once old one two message reply also (Ok Done) (Err end) is will (inr (a, goes)) (b, again, asked, how) =
      let same = message_once old one two message reply also a b in
      let e : None ≡ Some again = sym goes ∙ ap (λ (n : Answer State). ends n.order) same.answers ∙ asked in
      absurd (cc)
  performs_once old one two message reply also (Err end) (Ok Done) is will (done, again, asked, how) (inl drops) =
      absurd (not_both old two one message also reply drops done)
  performs_once old one two message reply also (Err end) (Ok Done) is will (a, again, asked, how) (inr (b, goes)) =
      let same = message_once old one two message reply also a b in
      let e : Some again ≡ None = sym asked ∙ ap (λ (n : Answer State). ends n.order) same.answers ∙ goes in
      absurd (cc)
  performs_once old one two message reply also (Err end) (Err other) is will (a, again, asked, how)
      (b, anew, also_asked, so) =
      let same = message_once old one two message reply also a b in
      let e : Some again ≡ Some anew = sym asked ∙ ap (λ (n : Answer State). ends n.order) same.answers ∙ also_asked in
      let one_word : again ≡ anew = cc in (
        same.replies,
        same.standings,
        ap Err (how ∙ ap Shutdown one_word ∙ sym so),
      )
