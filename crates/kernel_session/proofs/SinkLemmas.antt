-- The sink of an engine in a session stays the same sink.
use Rattle.std.proofs.Common.{◌≡◌, inl, inr, ℕ, List, [], ◌∷◌, Bool, Result, Ok, Err, sym, ap, subst}
use Rattle.zmtp_wire.specs.declared.handshake.socket_type.SocketType.TheVariants.{Router}
use Rattle.zmtp_wire.specs.declared.traffic.Traffic.{Traffic}
use Rattle.zmtp_wire.specs.declared.traffic.Traffic.TheVariants as traffic
use Rattle.zmtp_connection.specs.declared.end.Ending.{Ending}
use Rattle.zmtp_connection.specs.Exchange.{Devices}
use Rattle.jmsg_envelope.specs.declared.envelope.Envelope.{Envelope}
use Rattle.kernel_engine.specs.declared.fault.EngineFault.{EngineFault}
use Rattle.kernel_engine.specs.declared.fault.EngineFault.TheVariants.{OwedIdle, Memory, Worn}
use Rattle.kernel_engine.specs.declared.parts.Parts.{Parts}
use Rattle.kernel_engine.specs.Block.{Message}
use Rattle.kernel_engine.specs.Handles.{HandlesErr}
use Rattle.kernel_engine.specs.World.{World}
use Rattle.kernel_session.specs.declared.end.SessionEnd.{SessionEnd}
use Rattle.kernel_session.specs.declared.end.SessionEnd.TheVariants.{Shutdown, Failed}
use Rattle.zmtp_connection.specs.declared.server.Answered.{Answered}
use Rattle.zmtp_connection.specs.declared.server.Answered.TheVariants.{Done, Dropped}
use Rattle.zmtp_connection.specs.Server.{Serving, Treats, GoesOn, AnswersAll, Serves, ServesPeer, begins, told_ending}
use Rattle.kernel_session.specs.Work.{WorksOne}

module _ {I P S W Cell : Type 0} (world : World I P S W Cell)
    (same_itself : (a : P) → world.sink.is_same a a) (same_on : (a b c : P) → world.sink.is_same a b →
    world.sink.is_same b c → world.sink.is_same a c)
    (may : Type 0) where
  -- the one engine has the sink of the other
  abbrev HasSink : Parts I P S W → Parts I P S W → Type 0
  HasSink old new = world.sink.is_same old.publishing.sink new.publishing.sink

  sink_stays : (old new : Parts I P S W) → new ≡ old → HasSink old new
  sink_stays old new same =
      subst (λ (e : Parts I P S W). HasSink old e) (sym same) (same_itself old.publishing.sink)

  -- a request that was refused
  sink_refused : (request : Envelope) (old new : Parts I P S W) (fault : EngineFault)
      → HandlesErr world may request old fault new → HasSink old new
  sink_refused request old new (OwedIdle back) hands = hands.owes.asked.same
  sink_refused request old new Memory (inl none) = none.same
  sink_refused request old new Memory (inr cut) = cut.adds.same
  sink_refused request old new Worn (many, same) = sink_stays old new same

  -- one message
  sink_one : (old new : Parts I P S W) (message : Message) (reply : List ℕ) (answered : Result Answered SessionEnd)
      → WorksOne world may old message reply new answered
      → HasSink old new
  sink_one old new message reply (Ok Done) (inl ignores) = sink_stays old new ignores.same
  sink_one old new message reply (Ok Done) (inr through) = through.works.does.adds.same
  sink_one old new message reply (Ok Dropped) loses = sink_stays old new loses.same
  sink_one old new message reply (Err (Shutdown restart)) through = through.works.does.adds.same
  sink_one old new message reply (Err (Failed fault)) (inl refuses) =
      sink_refused refuses.request old new fault refuses.why
  sink_one old new message reply (Err (Failed fault)) (inr (inl vain)) = vain.works.does.adds.same
  sink_one old new message reply (Err (Failed fault)) (inr (inr lost)) = sink_stays old new lost.worn.same

  -- one traffic
  sink_treated : (old new : Parts I P S W) (item : Traffic) (reply : List ℕ) (answered : Result Answered SessionEnd)
      → Treats (WorksOne world may) old item reply new answered
      → HasSink old new
  sink_treated old new (traffic.Message message) reply answered step = sink_one old new message reply answered step
  sink_treated old new (traffic.Command name rest) reply answered (pong, same, goes) = sink_stays old new same

  -- traffic that is treated in turn
  sink_all : (old new : Serving (Parts I P S W)) (items : List Traffic) (replies : List ℕ)
      → AnswersAll (GoesOn (WorksOne world may)) old items replies new
      → HasSink old.server new.server
  sink_all old new [] replies (none, same) =
      sink_stays old.server new.server (ap (λ (s : Serving (Parts I P S W)). s.server) same)
  sink_all old new (first ∷ items) replies (middle, reply, later, (answered, step, mark), rest, is) =
      same_on old.server.publishing.sink middle.server.publishing.sink new.server.publishing.sink
      (sink_treated old.server middle.server first reply (Ok answered) step)
      (sink_all middle new items later rest)

  -- what a peer comes to
  sink_served : (dropped : Bool) (old new : Parts I P S W) (octets written : List ℕ) (ending : Ending SessionEnd)
      → Serves dropped (WorksOne world may) Router old octets written
      new ending
      → HasSink old new
  sink_served dropped old new octets written ending (inl (end, is, away, same, none)) = sink_stays old new same
  sink_served dropped old new octets written ending (inr served) =
      let talk = served.converses in
      let front = sink_all (begins old) talk.now talk.traffic talk.replies talk.answered in
      elim talk.ends [
        | inl (end, ended, runs, wrote, is) ↦ subst (λ (s : Serving (Parts I P S W)). HasSink old s.server) is front
        | inr last ↦
            same_on old.publishing.sink talk.now.server.publishing.sink new.publishing.sink front
            (sink_treated talk.now.server new last.last last.reply last.answered last.step)
      ]

  -- a session
  pub sink_of_session : (old new : Parts I P S W) (one : Devices) (two : ℕ → Devices) (given : Ending SessionEnd)
      → (left : ℕ) × (dropped : Bool) × (ended : Ending SessionEnd)
      × ServesPeer dropped (WorksOne world may) Router old one (two left) new ended
      × (given ≡ told_ending dropped ended)
      → HasSink old new
  sink_of_session old new one two given (left, dropped, ended, peer, is) =
      sink_served dropped old new peer.exchange.read peer.exchange.written ended peer.exchange.outcome
