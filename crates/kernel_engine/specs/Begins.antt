-- What an engine does with a request up to the close of its block.
use Rattle.std.specs.Prelude.{◌≡◌, ◌<◌, ◌≤◌, ◌^◌, MatchResult}
use Rattle.jmsg_envelope.specs.declared.envelope.Envelope.{Envelope}
use Rattle.kernel_engine.specs.declared.asked.Asked.{Asked}
use Rattle.kernel_engine.specs.declared.fault.EngineFault.{EngineFault}
use Rattle.kernel_engine.specs.declared.fault.EngineFault.TheVariants.{OwedIdle, Memory, Worn}
use Rattle.kernel_engine.specs.declared.open_block.Begun.{Begun}
use Rattle.kernel_engine.specs.declared.parts.Parts.{Parts}
use Rattle.kernel_engine.specs.declared.publishing.Publishing.{Publishing}
use Rattle.kernel_engine.specs.Handles.{AnswersInBlock, AnswersNot, HandlesNot, HandsBack, Pays}
use Rattle.kernel_engine.specs.Opens.{OpensBlock}
use Rattle.kernel_engine.specs.World.{World}

module _ {I P S W Cell : Type 0} (world : World I P S W Cell) where
  -- What was owed is published, and the block of a request is open. In it the request was answered, or memory was
  -- refused meanwhile.
  pub record BeginsRequest (may : Type 0) (asked : Asked) (old : Parts I P S W) (begun : Begun) (new : Parts I P S W)
      : Type 0 where
    pub few : old.publishing.next ≤ 2 ^ 62
    pub paid : Parts I P S W
    pub opens : Publishing P S
    pub pays : Pays world.sink old paid
    pub begins : OpensBlock world.sink world.stamp asked.request.header begun.block.heading begun.block.idle
        paid.publishing opens
    pub answers : MatchResult begun.answered
        (λ handled. AnswersInBlock world may begun.block.heading asked.request.identities asked.request.msg_type
        asked.does (record paid { publishing = opens }) handled new)
        (λ fault. (fault ≡ Memory)
        × AnswersNot world may begun.block.heading asked.does (record paid { publishing = opens }) new)

  -- nothing was published of a request, and this is why
  abbrev pub BeginsNot : Envelope → Parts I P S W → EngineFault → Parts I P S W → Type 0
  BeginsNot request old (OwedIdle back) new = HandsBack world request back old new
  BeginsNot request old Memory new = HandlesNot world old new
  BeginsNot request old Worn new = (2 ^ 62 < old.publishing.next) × (new ≡ old)
