-- What became of the jobs of a worker of shell or control.
use Rattle.std.specs.Prelude.{◌≡◌, ℕ, List, [], ◌∷◌, ◌++◌, Bool, true, false, Option, Some, None}
use Rattle.zmtp_wire.specs.Device.{risen}
use Rattle.kernel_engine.specs.declared.asked.Done.{Done}
use Rattle.kernel_engine.specs.declared.asked.Done.TheVariants as came
use Rattle.kernel_workers.specs.declared.outcomes.Outcome.{Outcome}
use Rattle.kernel_workers.specs.declared.outcomes.Outcome.TheVariants.{Replied, NoReply, NoRequest, NoMemory, Refused}
use Rattle.kernel_workers.specs.declared.outcomes.Outcome.TheVariants.{Ending}
use Rattle.kernel_workers.specs.declared.outcomes.Outcomes.{Outcomes}

-- what became of a message that was handled, by whether it has a reply
abbrev pub replied_by : Option (List (List ℕ)) → Outcome
replied_by None = NoReply
replied_by (Some reply) = Replied reply

-- what became of a message, by what an engine made of it
abbrev pub outcome_of : Done → Outcome
outcome_of came.Ignored = NoRequest
outcome_of came.Lost = NoMemory
outcome_of (came.Handled handled) = replied_by handled.reply
outcome_of (came.Refused fault) = Refused

-- whether a job wasn't done to its end: one that is no request has nothing to be done
abbrev pub is_undone : Outcome → Bool
is_undone (Replied reply) = false
is_undone NoReply = false
is_undone NoRequest = false
is_undone NoMemory = true
is_undone Refused = true
is_undone Ending = true

-- A count of jobs after one more, which counts or doesn't. The greatest count stays as it is.
abbrev pub counted_job : Bool → ℕ → ℕ
counted_job true count = risen count
counted_job false count = count

-- What became of a message was noted as its answer. If the message wasn't done to its end, it was counted.
pub record Records (message : List (List ℕ)) (outcome : Outcome) (old new : Outcomes) : Type 0 where
  pub answered : new.answers ≡ old.answers ++ record { to = message; outcome = outcome } ∷ []
  pub counts : new.undone ≡ counted_job (is_undone outcome) old.undone
