-- A worker's reply, and a worker at its peer.
use Rattle.std.proofs.Common.{◌≡◌, inl, inr, ℕ, ◌<◌, List, length, Option, Some, None}
use Rattle.std.proofs.Common.{IfSome, sym, subst, arith, length-append, Result, Ok, Err}
use Rattle.jmsg_envelope.specs.declared.envelope.Envelope.{Envelope}
use Rattle.jmsg_types.specs.declared.reply.Reply.{Reply}
use Rattle.kernel_engine.specs.declared.response.Response.{Response}
use Rattle.kernel_engine.specs.declared.heading.Heading.{Heading}
use Rattle.kernel_engine.specs.declared.parts.Parts.{Parts}
use Rattle.kernel_engine.specs.Block.{Message, Sealing, message, reply_message}
use Rattle.kernel_engine.specs.Growth.{sealing_of}
use Rattle.kernel_engine.specs.Handles.{HandlesOk}
use Rattle.kernel_engine.specs.WellBlocked.{heading_of, number_past}
use Rattle.kernel_engine.specs.declared.publishing.Body.{Body}
use Rattle.kernel_engine.specs.World.{World}
use Rattle.kernel_session.specs.declared.end.SessionEnd.{SessionEnd}
use Rattle.kernel_session.specs.declared.end.SessionEnd.TheVariants.{Shutdown, Failed}
use Rattle.zmtp_connection.specs.declared.server.Answered.{Answered}
use Rattle.zmtp_connection.specs.declared.server.Answered.TheVariants.{Done, Dropped}
use Rattle.kernel_session.specs.Work.{WritesHandled, Works, WorksOne, WritesOutcome}
use Rattle.kernel_engine.specs.declared.asked.Done.{Done as Came}
use Rattle.kernel_engine.specs.declared.asked.Done.TheVariants as variant
use Rattle.kernel_engine.specs.Takes.{Takes}

-- a message has frames
message_frames : (sealing : Sealing) (heading : Heading) (prefix : List (List ℕ)) (number : ℕ) (kind : List ℕ)
    (body : Body) → 0 < length (message sealing heading prefix number kind body)
unfolding message
message_frames sealing heading prefix number kind body = omega (arith, length-append {A = List ℕ})

reply_frames : (sealing : Sealing) (heading : Heading) (identities : List (List ℕ)) (number : ℕ) (kind : List ℕ)
    (reply : Option Reply)
    → IfSome (reply_message sealing heading identities number kind reply) (λ frames. 0 < length frames)
reply_frames sealing heading identities number kind None = tt
reply_frames sealing heading identities number kind (Some reply) =
    message_frames sealing heading identities number _ _

-- a reply has frames
some_frames : (sealing : Sealing) (heading : Heading) (identities : List (List ℕ)) (number : ℕ) (kind : List ℕ)
    (content : Option Reply) (reply : Option Message)
    → reply ≡ reply_message sealing heading identities number kind content
    → IfSome reply (λ frames. 0 < length frames)
some_frames sealing heading identities number kind content reply is =
    subst (λ (o : Option Message). IfSome o (λ frames. 0 < length frames)) (sym is)
    (reply_frames sealing heading identities number kind content)

module _ {I P S W Cell : Type 0} (world : World I P S W Cell) (may : Type 0) where
  -- the reply to a request has frames
  pub handled_frames : (old : Parts I P S W) (request : Envelope) (handled : Response) (new : Parts I P S W)
      → HandlesOk world may request old handled new
      → IfSome handled.reply (λ frames. 0 < length frames)
  handled_frames old request handled new ok =
      some_frames (sealing_of world.stamp old.publishing) (heading_of ok.block) request.identities
      (number_past ok.block)
      request.msg_type ok.reply handled.reply ok.replied

  -- a request was handled, and its reply added, or not for want of memory
  pub finished : (old : Parts I P S W) (message : Message) (handled : Response) (octets : List ℕ)
      (answered : Result Answered SessionEnd) (new : Parts I P S W)
      → Works world may old message handled new
      → WritesHandled handled octets answered
      → WorksOne world may old message octets new answered
  finished old message handled octets (Ok Done) new works (is, ends) =
      inr (record { handled = handled; works = works; end = ends; replied = is })
  finished old message handled octets (Ok Dropped) new works finishes = absurd finishes
  finished old message handled octets (Err (Shutdown restart)) new works (is, ends) =
      record { handled = handled; works = works; end = ends; replied = is }
  finished old message handled octets (Err (Failed fault)) new works (none, memory) =
      inr (inl (record { handled = handled; works = works; silent = none; memory = memory }))

  -- what came of a message, with what was added for it, is a step of the session
  pub taken : (old : Parts I P S W) (message : Message) (done : Came) (octets : List ℕ)
      (answered : Result Answered SessionEnd) (new : Parts I P S W) → Takes world may message old done new
      → WritesOutcome done octets answered → WorksOne world may old message octets new answered
  taken old message variant.Ignored octets answered new (refused, same) (silent, is) =
      subst (λ a. WorksOne world may old message octets new a) (sym is)
      (inl (record { refused = refused; silent = silent; same = same }))
  taken old message variant.Lost octets answered new (few, same) (silent, is) =
      subst (λ a. WorksOne world may old message octets new a) (sym is)
      (record { few = few; silent = silent; same = same })
  taken old message (variant.Handled handled) octets answered new (request, opened, ok) writes =
      finished old message handled octets answered new (record { request = request; opened = opened; does = ok }) writes
  taken old message (variant.Refused fault) octets answered new (inl (request, opened, why)) (silent, is) =
      subst (λ a. WorksOne world may old message octets new a) (sym is)
      (inl (record { request = request; opened = opened; why = why; silent = silent }))
  taken old message (variant.Refused fault) octets answered new (inr worn) (silent, is) =
      subst (λ a. WorksOne world may old message octets new a) (sym is)
      (inr (inr (record { worn = worn; silent = silent })))

  -- the reply to a message has frames
  pub taken_frames : (old : Parts I P S W) (message : Message) (handled : Response) (new : Parts I P S W)
      → Takes world may message old (variant.Handled handled) new
      → IfSome handled.reply (λ frames. 0 < length frames)
  taken_frames old message handled new (request, opened, ok) = handled_frames old request handled new ok
