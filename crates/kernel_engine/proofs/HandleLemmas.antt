-- A request that is handled, step by step: the idle that is owed, busy, what is published of it, and its idle.
use Rattle.std.proofs.Common.{arith, ◌≡◌, ◌⊎◌, inl, inr, ℕ, ◌+◌, ◌≤◌, ◌^◌, List, [], ◌∷◌, ◌++◌, length, map, Bool}
use Rattle.std.proofs.Common.{true, false, Option, Some, None, Result, Ok, Err, OnOk, MatchResult, refl, sym, ◌∙◌}
use Rattle.std.proofs.Common.{ap, append_assoc, subst}
use Rattle.std.proofs.lemmas.List.{append-nil, map-append}
use Rattle.iopub_event.specs.declared.event.Event.TheVariants as events
use Rattle.iopub_event.specs.declared.event.Event.{Event}
use Rattle.iopub_queue.specs.Entries.{Entry, StandsBehind}
use Rattle.iopub_queue.specs.Values as queue
use Rattle.jmsg_envelope.specs.Stamp.{StampMeaning}
use Rattle.jmsg_envelope.specs.declared.envelope.Envelope.{Envelope}
use Rattle.jmsg_types.specs.declared.publication.Publication.{Publication}
use Rattle.kernel_engine.specs.declared.asked.Asked.{Asked}
use Rattle.kernel_engine.specs.declared.does.Does.{Does}
use Rattle.kernel_engine.specs.declared.fault.EngineFault.{EngineFault}
use Rattle.kernel_engine.specs.declared.fault.EngineFault.TheVariants.{OwedIdle, Memory, Worn}
use Rattle.kernel_engine.specs.declared.open_block.Begun.{Begun}
use Rattle.kernel_engine.specs.declared.response.Response.{Response}
use Rattle.kernel_engine.specs.declared.heading.Heading.{Heading}
use Rattle.kernel_engine.specs.declared.parts.Parts.{Parts}
use Rattle.kernel_engine.specs.declared.publishing.Publishing.{Publishing}
use Rattle.kernel_engine.specs.declared.respond.Answered.{Answered}
use Rattle.kernel_engine.specs.Answer.{Answer, AnswersRequest}
use Rattle.kernel_engine.specs.Begins.{BeginsRequest, BeginsNot}
use Rattle.kernel_engine.specs.Block.{Message, busy, idle, opened_block, published_all, reply_message}
use Rattle.kernel_engine.specs.Comes.{IsRead, message_comes}
use Rattle.kernel_engine.specs.declared.does.Does.TheVariants.{Unread}
use Rattle.kernel_engine.specs.Growth.{PutsUnder, item_of, sealing_of}
use Rattle.kernel_engine.specs.Handles.{AddsBlock, AnswersInBlock, AnswersNot, Closes, HandlesCut, HandlesErr}
use Rattle.kernel_engine.specs.Handles.{HandlesOk}
use Rattle.kernel_engine.specs.Handles.{RequestLeaves, LeavesOpen, Pays, answer_with, owed_items}
use Rattle.kernel_engine.specs.Last.{ClosesBehind, CutLast, HandlesLast, HandlesLastErr, IdleIsBehind, IsBehind}
use Rattle.kernel_engine.specs.Opens.{OpensBlock, ids_of_reply}
use Rattle.kernel_engine.specs.Publications.{Publishes}
use Rattle.kernel_engine.specs.Responds.{RespondsCut, RespondsWhole, answer_of}
use Rattle.kernel_engine.specs.WellBlocked.{Block, idle_of, number_past}
use Rattle.kernel_engine.specs.World.{World}
use Rattle.kernel_engine.proofs.AnswerLemmas.{counted_once, leaves_answered}
use Rattle.kernel_engine.proofs.TellLemmas.{may_be_cut}

-- lists that grew one after the other
grown_lists : {A : Type 0} (l₀ l₁ l₂ owed front : List A) → l₁ ≡ l₀ ++ owed → l₂ ≡ l₁ ++ front
    → l₂ ≡ l₀ ++ (owed ++ front)
grown_lists l₀ l₁ l₂ owed front one two =
    two ∙ ap (λ l. l ++ front) one ∙ append_assoc l₀ owed front

-- a list behind lists that grew
grown_behind : {A : Type 0} (l₀ l₂ l₃ owed front more : List A) → l₂ ≡ l₀ ++ (owed ++ front) → l₃ ≡ l₂ ++ more
    → l₃ ≡ l₀ ++ (owed ++ (front ++ more))
grown_behind l₀ l₂ l₃ owed front more two three =
    three ∙ ap (λ l. l ++ more) two ∙ append_assoc l₀ (owed ++ front) more
    ∙ ap (λ l. l₀ ++ l) (append_assoc owed front more)

-- a list in front of nothing is empty
none_in_front : {A : Type 0} (xs ys : List A) → [] ≡ xs ++ ys → xs ≡ []
none_in_front [] ys is = refl
none_in_front (x ∷ xs) ys is = absurd (let e = is in cc)

module _ {I P S W Cell : Type 0} (world : World I P S W Cell)
    (on : (a b c : P) → world.sink.is_same a b → world.sink.is_same b c → world.sink.is_same a c) where
  -- the same signer and the same meaning of the stamp seal alike
  pub sealing_by : (p q : Publishing P S) → p.signer ≡ q.signer
      → world.stamp.meaning p.stamp ≡ world.stamp.meaning q.stamp
      → sealing_of world.stamp p ≡ sealing_of world.stamp q
  sealing_by p q signer meant =
      ap (λ key. record {
        key = key;
        session = (world.stamp.meaning p.stamp).session;
        id = world.stamp.id_text
            (world.stamp.meaning p.stamp);
      }) signer
      ∙ ap (λ (by : StampMeaning). record { key = q.signer; session = by.session; id = world.stamp.id_text by }) meant

  -- a block is open, and this was published of it
  record IsOpen (parent : List ℕ) (heading : Heading) (idling : Message) (publications : List Publication)
      (old new : Parts I P S W) : Type 0 where
    dated : world.stamp.is_date (world.stamp.meaning old.publishing.stamp) heading.date ≡ true
    parent_is : heading.parent ≡ parent
    idle_is : idling ≡ idle (sealing_of world.stamp old.publishing) heading old.publishing.next
    items : world.sink.items new.publishing.sink ≡ world.sink.items old.publishing.sink ++ (owed_items old.owed
        ++ map item_of (opened_block (sealing_of world.stamp old.publishing) heading old.publishing.next publications))
    owed : new.owed ≡ None
    side : new.side ≡ old.side
    signer : new.publishing.signer ≡ old.publishing.signer
    meant : world.stamp.meaning new.publishing.stamp ≡ world.stamp.meaning old.publishing.stamp
    same : world.sink.is_same old.publishing.sink new.publishing.sink

  -- the idle that was owed was published, and busy
  is_open : (parent : List ℕ) (heading : Heading) (idling : Message) (old paid : Parts I P S W) (opens : Publishing P S)
      → Pays world.sink old paid
      → OpensBlock world.sink world.stamp parent heading idling paid.publishing opens
      → IsOpen parent heading idling [] old (record paid { publishing = opens })
  is_open parent heading idling old paid opens pays begins =
      let signer : paid.publishing.signer ≡ old.publishing.signer =
      ap (λ (p : Parts I P S W). p.publishing.signer) pays.rest in
      let stamped : paid.publishing.stamp ≡ old.publishing.stamp =
      ap (λ (p : Parts I P S W). p.publishing.stamp) pays.rest in
      let next : paid.publishing.next ≡ old.publishing.next =
      ap (λ (p : Parts I P S W). p.publishing.next) pays.rest in
      let seals : sealing_of world.stamp paid.publishing ≡ sealing_of world.stamp old.publishing =
      sealing_by paid.publishing old.publishing signer (ap world.stamp.meaning stamped) in
      let busies : item_of {W = W} (busy (sealing_of world.stamp paid.publishing) heading paid.publishing.next) ∷ []
      ≡ item_of (busy (sealing_of world.stamp old.publishing) heading old.publishing.next) ∷ [] =
      ap (λ s. item_of (busy s heading paid.publishing.next) ∷ []) seals
      ∙ ap (λ n. item_of (busy (sealing_of world.stamp old.publishing) heading n) ∷ []) next in
      record {
        dated = subst (λ (s : S). world.stamp.is_date (world.stamp.meaning s) heading.date ≡ true) stamped begins.dated;
        parent_is = begins.parent_is;
        idle_is = begins.idle_is ∙ ap (λ s. idle s heading paid.publishing.next) seals
            ∙ ap (λ n. idle (sealing_of world.stamp old.publishing) heading n) next;
        items = grown_lists (world.sink.items old.publishing.sink) (world.sink.items paid.publishing.sink)
            (world.sink.items opens.sink)
            (owed_items old.owed) _ pays.items
            (begins.items ∙ ap (λ l. world.sink.items paid.publishing.sink ++ l) busies);
        owed = ap (λ (p : Parts I P S W). p.owed) pays.rest;
        side = ap (λ (p : Parts I P S W). p.side) pays.rest;
        signer = ap (λ (p : Publishing P S). p.signer) begins.rest ∙ signer;
        meant = begins.meant ∙ ap world.stamp.meaning stamped;
        same = on _ _ _ pays.same begins.same;
      }

  -- the next number behind busy and idle
  next_open : (parent : List ℕ) (heading : Heading) (idling : Message) (old paid : Parts I P S W)
      (opens : Publishing P S) → Pays world.sink old paid
      → OpensBlock world.sink world.stamp parent heading idling paid.publishing opens
      → opens.next ≡ old.publishing.next + 2
  next_open parent heading idling old paid opens pays begins =
      ap (λ (p : Publishing P S). p.next) begins.rest
      ∙ ap (λ (p : Parts I P S W). p.publishing.next + 2) pays.rest

  -- publications were published in a block that is open
  goes_on : (parent : List ℕ) (heading : Heading) (idling : Message) (publications : List Publication)
      (old begun new : Parts I P S W) (at : Publishing P S) (next : ℕ)
      → IsOpen parent heading idling [] old begun → begun.publishing.next ≡ old.publishing.next + 2
      → PutsUnder world.sink world.stamp heading begun.publishing at publications
      → new ≡ record begun { interp = new.interp; count = new.count; publishing = record at { next = next } }
      → IsOpen parent heading idling publications old new
  goes_on parent heading idling publications old begun new at next first number puts rest =
      let seals : sealing_of world.stamp begun.publishing ≡ sealing_of world.stamp old.publishing =
      sealing_by begun.publishing old.publishing first.signer first.meant in
      let more : map (item_of {W = W}) (published_all (sealing_of world.stamp begun.publishing) heading
      begun.publishing.next publications)
      ≡ map item_of (published_all (sealing_of world.stamp old.publishing) heading (old.publishing.next + 2)
      publications) =
      ap (λ s. map item_of (published_all s heading begun.publishing.next publications)) seals
      ∙ ap (λ n. map item_of (published_all (sealing_of world.stamp old.publishing) heading n publications))
      number in
      let publishing : new.publishing ≡ record at { next = next } = ap (λ (p : Parts I P S W). p.publishing) rest in
      record {
        dated = first.dated;
        parent_is = first.parent_is;
        idle_is = first.idle_is;
        items = ap (λ (p : Publishing P S). world.sink.items p.sink) publishing
            ∙ grown_behind (world.sink.items old.publishing.sink) (world.sink.items begun.publishing.sink)
            (world.sink.items at.sink)
            (owed_items old.owed) _ _ first.items
            (puts.items ∙ ap (λ l. world.sink.items begun.publishing.sink ++ l) more);
        owed = ap (λ (p : Parts I P S W). p.owed) rest ∙ first.owed;
        side = ap (λ (p : Parts I P S W). p.side) rest ∙ first.side;
        signer = ap (λ (p : Publishing P S). p.signer) publishing ∙ ap (λ (p : Publishing P S). p.signer) puts.rest
            ∙ first.signer;
        meant = ap (λ (p : Publishing P S). world.stamp.meaning p.stamp) publishing
            ∙ ap (λ (p : Publishing P S). world.stamp.meaning p.stamp) puts.rest ∙ first.meant;
        same = subst (λ (p : Publishing P S). world.sink.is_same old.publishing.sink p.sink) (sym publishing)
            (on _ _ _ first.same puts.same);
      }

  -- the block that was published, with its idle or without
  abbrev block_of : Heading → ℕ → List Publication → Bool → Block
  block_of heading number publications closed = record {
    date = heading.date;
    parent = heading.parent;
    number = number;
    publications = publications;
    closed = closed;
  }

  -- a block was added, and nothing else changed
  record Added (block : Block) (old at new : Parts I P S W) : Type 0 where
    adds : AddsBlock world block old new
    interp : new.interp ≡ at.interp
    count : new.count ≡ at.count
    next : new.publishing.next ≡ at.publishing.next

  -- the idle of the block was published
  closed_by : (parent : List ℕ) (heading : Heading) (idling : Message) (publications : List Publication)
      (old at new : Parts I P S W) → IsOpen parent heading idling publications old at
      → Closes world.sink idling at new → Added (block_of heading old.publishing.next publications true) old at new
  closed_by parent heading idling publications old at new first done = record {
    adds = record {
      number = refl;
      dated = first.dated;
      items = grown_behind (world.sink.items old.publishing.sink) (world.sink.items at.publishing.sink)
          (world.sink.items new.publishing.sink) (owed_items old.owed) _ _ first.items
          (done.items ∙ ap (λ i. world.sink.items at.publishing.sink ++ item_of i ∷ []) first.idle_is)
          ∙ ap (λ l. world.sink.items old.publishing.sink ++ (owed_items old.owed ++ l)) (sym (map-append item_of
          (opened_block (sealing_of world.stamp old.publishing) heading old.publishing.next publications) _));
      owed = inl (refl, ap (λ (p : Parts I P S W). p.owed) done.rest ∙ first.owed);
      side = ap (λ (p : Parts I P S W). p.side) done.rest ∙ first.side;
      signer = ap (λ (p : Parts I P S W). p.publishing.signer) done.rest ∙ first.signer;
      meant = ap (λ (p : Parts I P S W). world.stamp.meaning p.publishing.stamp) done.rest ∙ first.meant;
      same = on _ _ _ first.same done.same;
    };
    interp = ap (λ (p : Parts I P S W). p.interp) done.rest;
    count = ap (λ (p : Parts I P S W). p.count) done.rest;
    next = ap (λ (p : Parts I P S W). p.publishing.next) done.rest;
  }

  -- the idle of the block is owed
  left_by : (parent : List ℕ) (heading : Heading) (idling : Message) (publications : List Publication)
      (old at new : Parts I P S W) → ((a b : P) → world.sink.is_same a b → world.sink.may_refuse b →
      world.sink.may_refuse a) → IsOpen parent heading idling publications old at
      → LeavesOpen world.sink idling at new
      → Added (block_of heading old.publishing.next publications false) old at new
  left_by parent heading idling publications old at new back first left = record {
    adds = record {
      number = refl;
      dated = first.dated;
      items = left.items ∙ first.items ∙ ap (λ l. world.sink.items old.publishing.sink ++ (owed_items old.owed ++ l))
          (sym (ap (map item_of) (append-nil
          (opened_block (sealing_of world.stamp old.publishing) heading old.publishing.next publications))));
      owed = inr (
        refl,
        ap (λ (p : Parts I P S W). p.owed) left.rest ∙ ap (λ i. Some (events.Message i)) first.idle_is,
        back _ _ first.same left.refused,
      );
      side = ap (λ (p : Parts I P S W). p.side) left.rest ∙ first.side;
      signer = ap (λ (p : Parts I P S W). p.publishing.signer) left.rest ∙ first.signer;
      meant = ap (λ (p : Parts I P S W). world.stamp.meaning p.publishing.stamp) left.rest ∙ first.meant;
      same = on _ _ _ first.same left.same;
    };
    interp = ap (λ (p : Parts I P S W). p.interp) left.rest;
    count = ap (λ (p : Parts I P S W). p.count) left.rest;
    next = ap (λ (p : Parts I P S W). p.publishing.next) left.rest;
  }

  -- a request that wasn't read wasn't answered
  pub read_whole : (may : Type 0) (heading : Heading) (identities : List (List ℕ)) (msg_type : List ℕ)
      (does due : Does) (old : Parts I P S W) (handled : Response) (new : Parts I P S W) → IsRead does due
      → AnswersInBlock world may heading identities msg_type does old handled new
      → AnswersInBlock world may heading identities msg_type due old handled new
  read_whole may heading identities msg_type does due old handled new (inl is) answers =
      subst (λ d. AnswersInBlock world may heading identities msg_type d old handled new) is answers
  read_whole may heading identities msg_type does due old handled new (inr is) answers =
      let never = subst (λ d. AnswersInBlock world may heading identities msg_type d old handled new) is answers in
      absurd never.answers

  -- what is left of one that wasn't read: nothing of it was done
  unread_left : (may : Type 0) (due : Does) (old new : Parts I P S W) (publications : List Publication)
      → RequestLeaves world may Unread old new publications → RequestLeaves world may due old new publications
  unread_left may due old new publications (inl none) = inl none
  unread_left may due old new publications (inr (course, whole, behind, publishes, front, leaves, ending)) =
      inl (leaves.0, leaves.1, none_in_front publications behind (sym publishes ∙ front))

  pub read_cut : (may : Type 0) (heading : Heading) (does due : Does) (old new : Parts I P S W) → IsRead does due
      → AnswersNot world may heading does old new → AnswersNot world may heading due old new
  read_cut may heading does due old new (inl is) answers =
      subst (λ d. AnswersNot world may heading d old new) is answers
  read_cut may heading does due old new (inr is) answers =
      let cut = subst (λ d. AnswersNot world may heading d old new) is answers in
      record {
        publications = cut.publications;
        grew = cut.grew;
        rest = cut.rest;
        left = unread_left may due old new cut.publications cut.left;
      }

  -- a request that was answered was read
  pub was_read : (may : Type 0) (heading : Heading) (identities : List (List ℕ)) (msg_type : List ℕ)
      (does due : Does) (old new : Parts I P S W) (result : Result Response EngineFault) → IsRead does due
      → MatchResult result
      (λ handled. AnswersInBlock world may heading identities msg_type does old handled new)
      (λ fault. (fault ≡ Memory) × AnswersNot world may heading does old new)
      → OnOk result (does ≡ due)
  was_read may heading identities msg_type does due old new (Ok handled) (inl is) answers = is
  was_read may heading identities msg_type does due old new (Ok handled) (inr is) answers =
      let never = subst (λ d. AnswersInBlock world may heading identities msg_type d old handled new) is answers in
      absurd never.answers
  was_read may heading identities msg_type does due old new (Err fault) read answers = tt

  -- a request was handled, or cut for want of memory
  abbrev pub HandledOrCut : Type 0 → Envelope → Parts I P S W → Parts I P S W → Result Response EngineFault → Type 0
  HandledOrCut may request old new result = MatchResult result
      (λ handled. HandlesOk world may request old handled new)
      (λ fault. (fault ≡ Memory) × HandlesCut world may request old new)

  -- what is told of such a request
  pub handled_told : (may : Type 0) (request : Envelope) (old new : Parts I P S W)
      (result : Result Response EngineFault) → HandledOrCut may request old new result
      → MatchResult result (λ handled. HandlesOk world may request old handled new)
      (λ fault. HandlesErr world may request old fault new)
  handled_told may request old new (Ok handled) handles = handles
  handled_told may request old new (Err fault) (is, cut) = rw is (inr cut)

  module _ (request : Envelope) (heading : Heading) (idling : Message) (old paid : Parts I P S W)
      (opens : Publishing P S) (at new : Parts I P S W) (few : old.publishing.next ≤ 2 ^ 62)
      (pays : Pays world.sink old paid)
      (begins : OpensBlock world.sink world.stamp request.header heading idling paid.publishing opens)
    where
      -- the publications of a request that was answered
      grown_ok : (may : Type 0) (handled : Response) (answers : AnswersInBlock world may heading request.identities
          request.msg_type (message_comes old.side request) (record paid { publishing = opens }) handled at)
          → IsOpen request.header heading idling answers.publications old at
      grown_ok may handled answers =
          goes_on request.header heading idling answers.publications old (record paid { publishing = opens }) at
          answers.at (answers.at.next + ids_of_reply answers.reply)
          (is_open request.header heading idling old paid opens pays begins)
          (next_open request.header heading idling old paid opens pays begins) answers.grew answers.rest

      -- the publications of one for which memory was refused meanwhile
      grown_cut : (may : Type 0) (answers : AnswersNot world may heading (message_comes old.side request)
          (record paid { publishing = opens }) at) → IsOpen request.header heading idling answers.publications old at
      grown_cut may answers =
          goes_on request.header heading idling answers.publications old (record paid { publishing = opens }) at
          at.publishing at.publishing.next (is_open request.header heading idling old paid opens pays begins)
          (next_open request.header heading idling old paid opens pays begins) answers.grew answers.rest

      -- a request was answered, and its block was added
      handled_ok : (may : Type 0) (handled : Response) (closed : Bool) (answers : AnswersInBlock world may heading
          request.identities request.msg_type (message_comes old.side request) (record paid { publishing = opens })
          handled at) → Added (block_of heading old.publishing.next answers.publications closed) old at new
          → (ok : HandlesOk world may request old handled new)
          × (ok.block ≡ block_of heading old.publishing.next answers.publications closed)
      handled_ok may handled closed answers added =
          let first = is_open request.header heading idling old paid opens pays begins in
          let number = next_open request.header heading idling old paid opens pays begins in
          let behind : answers.at.next
          ≡ number_past (block_of heading old.publishing.next answers.publications closed) =
          ap (λ (p : Publishing P S). p.next) answers.grew.rest
          ∙ ap (λ n. n + length answers.publications) number in (
            record {
              few = few;
              course = answers.course;
              block = block_of heading old.publishing.next answers.publications closed;
              reply = answers.reply;
              parent = begins.parent_is;
              publishes = subst (λ (p : Parts I P S W). Publishes world.language (message_comes old.side request)
                  p.interp p.count answers.course answers.publications) pays.rest answers.publishes;
              answers = subst
                  (λ (a : Answer I). AnswersRequest world.language (message_comes old.side request) old.interp
                  old.count answers.course a)
                  (ap (λ (i : I). record (answer_with handled answers.reply at) { state = i }) (sym added.interp)
                  ∙ ap (λ n. record (answer_with handled answers.reply at) { state = new.interp; count = n })
                  (sym added.count))
                  (subst (λ (p : Parts I P S W). AnswersRequest world.language (message_comes old.side request) p.interp
                  p.count answers.course (answer_with handled answers.reply at)) pays.rest answers.answers);
              ending = answers.ending;
              replied = answers.replied
                  ∙ ap (λ s. reply_message s heading request.identities answers.at.next request.msg_type answers.reply)
                  (sealing_by opens old.publishing first.signer first.meant)
                  ∙ ap (λ n. reply_message (sealing_of world.stamp old.publishing) heading request.identities n
                  request.msg_type answers.reply) behind;
              adds = added.adds;
              next = added.next ∙ ap (λ (p : Parts I P S W). p.publishing.next) answers.rest
                  ∙ ap (λ n. n + ids_of_reply answers.reply) behind;
              last = let before : opens.next ≤ 2 ^ 63 + 1 = omega (arith, few, number) in
                  let reached = answers.few before in let next = added.next in omega (arith, reached, next);
            },
            refl,
          )

      -- memory was refused while a request was answered, and its block was added
      handled_cut : (may : Type 0) (closed : Bool) (answers : AnswersNot world may heading
          (message_comes old.side request) (record paid { publishing = opens }) at)
          → Added (block_of heading old.publishing.next answers.publications closed) old at new
          → (cut : HandlesCut world may request old new)
          × (cut.block ≡ block_of heading old.publishing.next answers.publications closed)
      handled_cut may closed answers added =
          let number = next_open request.header heading idling old paid opens pays begins in (
            record {
              few = few;
              block = block_of heading old.publishing.next answers.publications closed;
              parent = begins.parent_is;
              left = rw (added.interp, added.count)
                  (subst (λ (p : Parts I P S W). RequestLeaves world may (message_comes
                  old.side request) p at answers.publications) pays.rest
                  answers.left);
              adds = added.adds;
              next = added.next ∙ ap (λ (p : Publishing P S). p.next) answers.grew.rest
                  ∙ ap (λ n. n + length answers.publications) number;
              last = let before : opens.next ≤ 2 ^ 63 + 1 = omega (arith, few, number) in
                  let reached = answers.grew.few before in let next = added.next in omega (arith, reached, next);
            },
            refl,
          )

      -- a request was answered, and its block closed or left open
      ok_by : (may : Type 0) (handled : Response)
          → ((a b : P) → world.sink.is_same a b → world.sink.may_refuse b → world.sink.may_refuse a)
          → AnswersInBlock world may heading request.identities request.msg_type (message_comes old.side request)
          (record paid { publishing = opens }) handled at
          → Closes world.sink idling at new ⊎ LeavesOpen world.sink idling at new
          → HandlesOk world may request old handled new
      ok_by may handled back answers (inl done) =
          (handled_ok may handled true answers (closed_by request.header heading idling answers.publications old at new
          (grown_ok may handled answers) done)).0
      ok_by may handled back answers (inr left) =
          (handled_ok may handled false answers (left_by request.header heading idling answers.publications old at new
          back (grown_ok may handled answers) left)).0

      -- memory was refused meanwhile, and its block closed or left open
      cut_by : (may : Type 0)
          → ((a b : P) → world.sink.is_same a b → world.sink.may_refuse b → world.sink.may_refuse a)
          → AnswersNot world may heading (message_comes old.side request) (record paid { publishing = opens }) at
          → Closes world.sink idling at new ⊎ LeavesOpen world.sink idling at new
          → HandlesCut world may request old new
      cut_by may back answers (inl done) =
          (handled_cut may true answers (closed_by request.header heading idling answers.publications old at new
          (grown_cut may answers) done)).0
      cut_by may back answers (inr left) =
          (handled_cut may false answers (left_by request.header heading idling answers.publications old at new back
          (grown_cut may answers) left)).0

      -- a request that was read was answered, or memory was refused meanwhile
      handled_by : (may : Type 0) (does : Does) (result : Result Response EngineFault)
          → ((a b : P) → world.sink.is_same a b → world.sink.may_refuse b → world.sink.may_refuse a)
          → IsRead does (message_comes old.side request)
          → MatchResult result
          (λ handled. AnswersInBlock world may heading request.identities request.msg_type does
          (record paid { publishing = opens }) handled at)
          (λ fault. (fault ≡ Memory) × AnswersNot world may heading does (record paid { publishing = opens }) at)
          → Closes world.sink idling at new ⊎ LeavesOpen world.sink idling at new
          → HandledOrCut may request old new result
      handled_by may does (Ok handled) back read answers ends =
          let whole = read_whole may heading request.identities request.msg_type does (message_comes old.side request)
          (record paid { publishing = opens }) handled at read answers in
          ok_by may handled back whole ends
      handled_by may does (Err fault) back read (is, answers) ends = (
        is,
        cut_by may back (read_cut may heading does (message_comes old.side request)
            (record paid { publishing = opens }) at read answers) ends,
      )

      module _ (publisher : P → queue.Publishing (Event W)) (word : List (Entry (Event W)))
          (number : (publisher at.publishing.sink).number ≡ (publisher old.publishing.sink).number)
        where
          -- the idle of the block is behind a word
          idle_behind : (publications : List Publication) (block : Block)
              → block ≡ block_of heading old.publishing.next publications true → IsBehind publisher idling word at new
              → IdleIsBehind world publisher word block old new
          idle_behind publications block is behind closed =
              subst (λ (b : Block). IsBehind publisher (idle_of (sealing_of world.stamp old.publishing) b) word old new)
              (sym is)
              (subst (λ i. IsBehind publisher i word old new)
              ((is_open request.header heading idling old paid opens pays begins).idle_is)
              (subst (λ n. StandsBehind (publisher new.publishing.sink).told (n, item_of idling) word) number behind))

          -- no idle was published
          no_idle : (publications : List Publication) (block : Block)
              → block ≡ block_of heading old.publishing.next publications false
              → IdleIsBehind world publisher word block old new
          no_idle publications block is closed =
              absurd (let open_one = ap (λ (b : Block). b.closed) is in let e = closed in cc)

          -- a request was answered, and its idle is behind a word, or its block left open
          last_ok : (may : Type 0) (handled : Response)
              → ((a b : P) → world.sink.is_same a b → world.sink.may_refuse b → world.sink.may_refuse a)
              → AnswersInBlock world may heading request.identities request.msg_type (message_comes old.side request)
              (record paid { publishing = opens }) handled at
              → ClosesBehind publisher world.sink idling word at new ⊎ LeavesOpen world.sink idling at new
              → HandlesLast world publisher may request word old handled new
          last_ok may handled back answers (inl ends) =
              let (ok, is) = handled_ok may handled true answers (closed_by request.header heading idling
              answers.publications old at new (grown_ok may handled answers) ends.closes) in
              record { handles = ok; behind = idle_behind answers.publications ok.block is ends.behind }
          last_ok may handled back answers (inr left) =
              let (ok, is) = handled_ok may handled false answers (left_by request.header heading idling
              answers.publications old at new back (grown_ok may handled answers) left) in
              record { handles = ok; behind = no_idle answers.publications ok.block is }

          -- memory was refused meanwhile, and its idle is behind a word, or its block left open
          last_cut : (may : Type 0)
              → ((a b : P) → world.sink.is_same a b → world.sink.may_refuse b → world.sink.may_refuse a)
              → AnswersNot world may heading (message_comes old.side request) (record paid { publishing = opens }) at
              → ClosesBehind publisher world.sink idling word at new ⊎ LeavesOpen world.sink idling at new
              → CutLast world publisher may request word old new
          last_cut may back answers (inl ends) =
              let (cut, is) = handled_cut may true answers (closed_by request.header heading idling
              answers.publications old at new (grown_cut may answers) ends.closes) in
              record { cut = cut; behind = idle_behind answers.publications cut.block is ends.behind }
          last_cut may back answers (inr left) =
              let (cut, is) = handled_cut may false answers (left_by request.header heading idling
              answers.publications old at new back (grown_cut may answers) left) in
              record { cut = cut; behind = no_idle answers.publications cut.block is }

          -- a request that was read was answered, or memory was refused meanwhile, its idle behind a word
          last_by : (may : Type 0) (does : Does) (result : Result Response EngineFault)
              → ((a b : P) → world.sink.is_same a b → world.sink.may_refuse b → world.sink.may_refuse a)
              → IsRead does (message_comes old.side request)
              → MatchResult result
              (λ handled. AnswersInBlock world may heading request.identities request.msg_type does
              (record paid { publishing = opens }) handled at)
              (λ fault. (fault ≡ Memory) × AnswersNot world may heading does (record paid { publishing = opens }) at)
              → ClosesBehind publisher world.sink idling word at new ⊎ LeavesOpen world.sink idling at new
              → MatchResult result
              (λ handled. HandlesLast world publisher may request word old handled new)
              (λ fault. (fault ≡ Memory) × CutLast world publisher may request word old new)
          last_by may does (Ok handled) back read answers ends =
              let whole = read_whole may heading request.identities request.msg_type does
              (message_comes old.side request) (record paid { publishing = opens }) handled at read answers in
              last_ok may handled back whole ends
          last_by may does (Err fault) back read (is, answers) ends = (
            is,
            last_cut may back (read_cut may heading does (message_comes old.side request)
                (record paid { publishing = opens }) at read answers) ends,
          )

  -- a request that was begun was handled, or cut, as its block was closed or is left open
  pub begun_told : (may : Type 0) (asked : Asked) (old at new : Parts I P S W) (begun : Begun)
      → ((a b : P) → world.sink.is_same a b → world.sink.may_refuse b → world.sink.may_refuse a)
      → IsRead asked.does (message_comes old.side asked.request) → BeginsRequest world may asked old begun at
      → Closes world.sink begun.block.idle at new ⊎ LeavesOpen world.sink begun.block.idle at new
      → HandledOrCut may asked.request old new begun.answered
  begun_told may asked old at new begun back read begins ends =
      handled_by asked.request begun.block.heading begun.block.idle old begins.paid begins.opens at new begins.few
      begins.pays begins.begins may asked.does begun.answered back read begins.answers ends

  -- what is told of a request of which nothing was published
  pub not_begun : (may : Type 0) (request : Envelope) (old new : Parts I P S W) (fault : EngineFault)
      → BeginsNot world request old fault new → HandlesErr world may request old fault new
  not_begun may request old new (OwedIdle back) none = none
  not_begun may request old new Memory none = inl none
  not_begun may request old new Worn none = none

  -- a request that was answered was read, where it was begun
  pub begun_read : (may : Type 0) (asked : Asked) (old at : Parts I P S W) (begun : Begun)
      → IsRead asked.does (message_comes old.side asked.request) → BeginsRequest world may asked old begun at
      → OnOk begun.answered (asked.does ≡ message_comes old.side asked.request)
  begun_read may asked old at begun read begins =
      was_read may begun.block.heading asked.request.identities asked.request.msg_type asked.does
      (message_comes old.side asked.request) (record begins.paid { publishing = begins.opens }) at begun.answered read
      begins.answers

  -- while a request is answered the sink stays the same
  same_answered : (may : Type 0) (heading : Heading) (identities : List (List ℕ)) (msg_type : List ℕ) (does : Does)
      (old new : Parts I P S W) (result : Result Response EngineFault) → MatchResult result
      (λ handled. AnswersInBlock world may heading identities msg_type does old handled new)
      (λ fault. (fault ≡ Memory) × AnswersNot world may heading does old new)
      → world.sink.is_same old.publishing.sink new.publishing.sink
  same_answered may heading identities msg_type does old new (Ok handled) answers =
      subst (λ (p : Parts I P S W). world.sink.is_same old.publishing.sink p.publishing.sink) (sym answers.rest)
      answers.grew.same
  same_answered may heading identities msg_type does old new (Err fault) (is, answers) = answers.grew.same

  -- and so it does while one is begun
  pub same_begun : (may : Type 0) (asked : Asked) (old at : Parts I P S W) (begun : Begun)
      → BeginsRequest world may asked old begun at → world.sink.is_same old.publishing.sink at.publishing.sink
  same_begun may asked old at begun begins =
      on _ _ _ (on _ _ _ begins.pays.same begins.begins.same)
      (same_answered may begun.block.heading asked.request.identities asked.request.msg_type asked.does
      (record begins.paid { publishing = begins.opens }) at begun.answered begins.answers)

  -- what is told of a request whose idle goes behind a word
  abbrev pub ToldLast : (P → queue.Publishing (Event W)) → List (Entry (Event W)) → Type 0 → Envelope
      → Parts I P S W → Parts I P S W → Result Response EngineFault → Type 0
  ToldLast publisher word may request old new result = MatchResult result
      (λ handled. HandlesLast world publisher may request word old handled new)
      (λ fault. HandlesLastErr world publisher may request word old fault new)

  -- what such a request comes to
  pub last_told : (publisher : P → queue.Publishing (Event W)) (word : List (Entry (Event W))) (may : Type 0)
      (request : Envelope) (old new : Parts I P S W) (result : Result Response EngineFault)
      → MatchResult result (λ handled. HandlesLast world publisher may request word old handled new)
      (λ fault. (fault ≡ Memory) × CutLast world publisher may request word old new)
      → ToldLast publisher word may request old new result
  last_told publisher word may request old new (Ok handled) handles = handles
  last_told publisher word may request old new (Err fault) (is, cut) = rw is (inr cut)

  -- a request that was begun, and whose idle went behind a word, or is left open
  pub begun_last : (publisher : P → queue.Publishing (Event W)) (word : List (Entry (Event W))) (may : Type 0)
      (asked : Asked) (old at new : Parts I P S W) (begun : Begun)
      → ((a b : P) → world.sink.is_same a b → world.sink.may_refuse b → world.sink.may_refuse a)
      → (publisher at.publishing.sink).number ≡ (publisher old.publishing.sink).number
      → IsRead asked.does (message_comes old.side asked.request) → BeginsRequest world may asked old begun at
      → ClosesBehind publisher world.sink begun.block.idle word at new ⊎ LeavesOpen world.sink begun.block.idle at new
      → MatchResult begun.answered (λ handled. HandlesLast world publisher may asked.request word old handled new)
      (λ fault. (fault ≡ Memory) × CutLast world publisher may asked.request word old new)
  begun_last publisher word may asked old at new begun back number read begins ends =
      last_by asked.request begun.block.heading begun.block.idle old begins.paid begins.opens at new begins.few
      begins.pays begins.begins publisher word number may asked.does begun.answered back read begins.answers ends

  -- what is told of such a request of which nothing was published
  pub not_begun_last : (publisher : P → queue.Publishing (Event W)) (word : List (Entry (Event W))) (may : Type 0)
      (request : Envelope) (old new : Parts I P S W) (fault : EngineFault)
      → BeginsNot world request old fault new → HandlesLastErr world publisher may request word old fault new
  not_begun_last publisher word may request old new (OwedIdle back) none = none
  not_begun_last publisher word may request old new Memory none = inl none
  not_begun_last publisher word may request old new Worn none = none

  -- a request was answered, and its reply was made
  pub answers_whole : (may : Type 0) (heading : Heading) (identities : List (List ℕ)) (msg_type : List ℕ)
      (does : Does) (old at : Parts I P S W) (made : Publishing P S) (answered : Answered) (reply : Option Message)
      → RespondsWhole world.language does may old.interp old.count (answer_of answered at.interp at.count)
      (PutsUnder world.sink world.stamp heading old.publishing at.publishing)
      → at ≡ record old { interp = at.interp; count = at.count; publishing = at.publishing }
      → (reply ≡ reply_message (sealing_of world.stamp at.publishing) heading identities at.publishing.next msg_type
      answered.reply)
      × (made ≡ record at.publishing { next = at.publishing.next + ids_of_reply answered.reply })
      → (at.publishing.next ≤ 2 ^ 63 + 1 → made.next ≤ 2 ^ 63 + 1)
      → AnswersInBlock world may heading identities msg_type does old
      (record { reply = reply; order = answered.order }) (record at { publishing = made })
  answers_whole may heading identities msg_type does old at made answered reply whole same (is, grown) few =
      record {
        course = whole.course;
        publications = whole.publications;
        reply = answered.reply;
        publishes = whole.publishes;
        answers = whole.answers;
        ending = whole.ending;
        at = at.publishing;
        grew = whole.grew;
        replied = is ∙ ap (λ (p : Publishing P S). reply_message (sealing_of world.stamp p) heading identities
            at.publishing.next msg_type answered.reply) whole.grew.rest;
        rest = ap (λ (p : Parts I P S W). record p { publishing = made }) same
            ∙ ap (λ (p : Publishing P S). record old { interp = at.interp; count = at.count; publishing = p }) grown;
        few = λ before. few (whole.grew.few before);
      }

  -- a request was answered, and its reply wasn't made
  pub answers_unreplied : (may : Type 0) (heading : Heading) (does : Does) (old at : Parts I P S W)
      (made : Publishing P S) (answered : Answered)
      → RespondsWhole world.language does may old.interp old.count (answer_of answered at.interp at.count)
      (PutsUnder world.sink world.stamp heading old.publishing at.publishing)
      → at ≡ record old { interp = at.interp; count = at.count; publishing = at.publishing }
      → made ≡ at.publishing → AnswersNot world may heading does old (record at { publishing = made })
  answers_unreplied may heading does old at made answered whole rest same = record {
    publications = whole.publications;
    grew = subst (λ (p : Publishing P S). PutsUnder world.sink world.stamp heading old.publishing p
        whole.publications) (sym same) whole.grew;
    rest = ap (λ (p : Parts I P S W). record p { publishing = made }) rest;
    left = inr (
      whole.course,
      whole.publications,
      [],
      whole.publishes,
      sym (append-nil whole.publications),
      leaves_answered world.language old.interp old.count whole.course (answer_of answered at.interp at.count) does
          whole.answers,
      may_be_cut may whole.course.ending whole.publications [] whole.ending,
    );
  }

  -- memory was refused while a request was answered
  pub answers_cut : (may : Type 0) (heading : Heading) (does : Does) (old new : Parts I P S W)
      → RespondsCut world.language does may old.interp old.count new.interp new.count
      (PutsUnder world.sink world.stamp heading old.publishing new.publishing)
      → new ≡ record old { interp = new.interp; count = new.count; publishing = new.publishing }
      → AnswersNot world may heading does old new
  answers_cut may heading does old new (inl not) same =
      record { publications = []; grew = not.grew; rest = same; left = inl (not.same, not.counted, refl) }
  answers_cut may heading does old new (inr part) same = record {
    publications = part.front;
    grew = part.grew;
    rest = same;
    left = inr (
      part.course,
      part.publications,
      part.rest,
      part.publishes,
      part.whole,
      part.leaves,
      part.ending,
    );
  }

  -- what is left of a request counts at most once
  left_once : (may : Type 0) (old new : Parts I P S W) (does : Does) (publications : List Publication)
      → RequestLeaves world may does old new publications
      → new.count ≤ old.count + 1
  left_once may old new does publications (inl (state, count, none)) = omega (arith, count)
  left_once may old new does publications (inr (course, whole, behind, publishes, front, leaves, ending)) =
      counted_once world.language old.interp old.count course new.interp new.count does leaves

  -- what was handled counts at most once
  pub handled_count : (may : Type 0) (request : Envelope) (old new : Parts I P S W) (handled : Response)
      → old.count ≤ old.publishing.next
      → HandlesOk world may request old handled new
      → new.count ≤ new.publishing.next
  handled_count may request old new handled fewer ok =
      let once = counted_once world.language old.interp old.count ok.course new.interp new.count _
      (leaves_answered world.language old.interp old.count ok.course (answer_with handled ok.reply new) _ ok.answers) in
      let number = ok.adds.number in
      let next = ok.next in
      omega (arith, fewer, once, number, next)

  -- so does what was cut
  pub cut_count : (may : Type 0) (request : Envelope) (old new : Parts I P S W) → old.count ≤ old.publishing.next
      → HandlesCut world may request old new
      → new.count ≤ new.publishing.next
  cut_count may request old new fewer cut =
      let once = left_once may old new (message_comes old.side request) cut.block.publications cut.left in
      let number = cut.adds.number in
      let next = cut.next in
      omega (arith, fewer, once, number, next)

  -- and so does one that was handled, or cut
  pub counted_by : (may : Type 0) (request : Envelope) (old new : Parts I P S W)
      (result : Result Response EngineFault) → old.count ≤ old.publishing.next
      → HandledOrCut may request old new result → new.count ≤ new.publishing.next
  counted_by may request old new (Ok handled) fewer handles = handled_count may request old new handled fewer handles
  counted_by may request old new (Err fault) fewer (is, cut) = cut_count may request old new fewer cut

  -- a request whose idle goes behind a word counts at most once, too
  pub last_counted : (publisher : P → queue.Publishing (Event W)) (word : List (Entry (Event W))) (may : Type 0)
      (request : Envelope) (old new : Parts I P S W) (result : Result Response EngineFault)
      → old.count ≤ old.publishing.next
      → MatchResult result (λ handled. HandlesLast world publisher may request word old handled new)
      (λ fault. (fault ≡ Memory) × CutLast world publisher may request word old new)
      → new.count ≤ new.publishing.next
  last_counted publisher word may request old new (Ok handled) fewer last =
      handled_count may request old new handled fewer last.handles
  last_counted publisher word may request old new (Err fault) fewer (is, last) =
      cut_count may request old new fewer last.cut
