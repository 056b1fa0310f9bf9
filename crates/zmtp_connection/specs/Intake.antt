-- An intake, which traffic is put into.
use Rattle.std.specs.Prelude.{◌≡◌, ◌⊎◌, ⊤, ℕ, List, [], ◌∷◌, ◌++◌, Bool, true, false, Result, Ok, Err, Option}
use Rattle.std.specs.Prelude.{Some, None}
use Rattle.std.specs.declared.alloc.AllocError.{AllocError}
use Rattle.std.proofs.Common.{inl, inr}
use Rattle.zmtp_wire.specs.declared.traffic.Traffic.{Traffic}
use Rattle.zmtp_connection.specs.declared.fault.ConnectionFault.TheVariants.{Memory}
use Rattle.zmtp_connection.specs.declared.end.ConnectionEnd.{ConnectionEnd}
use Rattle.zmtp_connection.specs.declared.end.ConnectionEnd.TheVariants.{Eof, Failed}
use Rattle.zmtp_connection.specs.Exchange.{Source}
use Rattle.zmtp_connection.specs.Listen.{IsHeardOut, IsBrokenOff}

-- one step of an intake: what it was, the traffic, what it is then, and whether the traffic was put
abbrev pub IntakeStep : Type 0 → Type 1
IntakeStep Intake = Intake → Traffic → Intake → Result Bool AllocError → Type 0

-- A list that is told grew by these. If it isn't told, nothing is said.
abbrev pub Grows : Option (List Traffic) → Option (List Traffic) → List Traffic → Type 0
Grows None new more = ⊤
Grows (Some old) None more = ⊥
Grows (Some old) (Some new) more = new ≡ old ++ more

-- what a call put into the intake: the traffic if it answers yes, and else nothing
abbrev pub put_by : Traffic → Result Bool AllocError → List Traffic
put_by traffic (Ok true) = traffic ∷ []
put_by traffic (Ok false) = []
put_by traffic (Err error) = []

-- Traffic was put into the intake. Or the intake said no, which ends hearing as the peer's last octet does. Or it had
-- no memory.
abbrev pub Fills : {Intake : Type 0} → IntakeStep Intake → Intake → Traffic → Intake → Result Unit ConnectionEnd
    → Type 0
Fills takes old traffic new (Ok done) = takes old traffic new (Ok true)
Fills takes old traffic new (Err end) = (takes old traffic new (Ok false) × (end ≡ Eof))
    ⊎ ((error : AllocError) × takes old traffic new (Err error) × (end ≡ Failed Memory))

-- what a step put into the intake: the traffic, unless it ended hearing
abbrev pub put_of : Traffic → Result Unit ConnectionEnd → List Traffic
put_of traffic (Ok done) = traffic ∷ []
put_of traffic (Err end) = []

-- Traffic was put or not, and the list of what was put grew by just that. The arguments are those of `Fills`, and the
-- list.
abbrev pub FillsOne : {Intake : Type 0} → IntakeStep Intake → (Intake → Option (List Traffic)) → Intake → Traffic
    → Intake
    → Result Unit ConnectionEnd → Type 0
FillsOne takes told old traffic new result =
    Fills takes old traffic new result × Grows (told old) (told new) (put_of traffic result)

-- What a peer says was put into an intake, whole and in order, and the list of what was put grew by just that. The
-- connection or the intake ended it. The arguments are two ghost members of the intake, and what one call begins with
-- and ends with.
pub record FillsAll {Intake : Type 0} (takes : IntakeStep Intake) (told : Intake → Option (List Traffic)) (old : Intake)
    (before : List ℕ) (source source' : Source) (new : Intake) (end : ConnectionEnd) : Type 0 where
  pub listens : IsHeardOut (Fills takes) old before source source' new end
      ⊎ IsBrokenOff (Fills takes) old before source source' new end
  pub put : Grows (told old) (told new)
      (elim listens [ inl out ↦ out.heard.traffic | inr off ↦ off.heard.traffic ])
