-- The exit statuses of the program.
use Rattle.std.specs.Prelude.{ℕ, Option, if◌then◌else◌}
use Rattle.kernel_serve.specs.declared.serving.Served.{Served}
use Rattle.kernel_program.specs.declared.status.Status.{Status}
use Rattle.kernel_program.specs.declared.status.Status.TheVariants.{Done, Ended, Failed, OutputFailed, WordsRefused}
use Rattle.kernel_program.specs.declared.status.Status.TheVariants.{WordsUnreadable, FileUnreadable, FileRefused}
use Rattle.kernel_program.specs.declared.status.Status.TheVariants.{CannotBind, Incomplete, InputRefused, BeginRefused}
use Rattle.kernel_replay.specs.declared.input.HexFault.{HexFault}
use Rattle.kernel_replay.specs.declared.input.HexFault.TheVariants as refused
use Rattle.kernel_program.specs.declared.language.BeginFault.{BeginFault}
use Rattle.kernel_program.specs.declared.language.BeginFault.TheVariants as faults

-- the exit status of the program
abbrev pub status_code : Status → ℕ
status_code Done = 0
status_code (Ended served) = 0
status_code Failed = 1
status_code (OutputFailed why) = 1
status_code (WordsRefused said) = 2
status_code WordsUnreadable = 2
status_code (FileUnreadable why) = 3
status_code (FileRefused fault) = 3
status_code (CannotBind port why) = 4
status_code Incomplete = 5
status_code (InputRefused place) = 6
status_code (BeginRefused said) = 7

-- how a replay ends if there were no octets in its input, whose first octet that is no digit stands here
abbrev pub unread_status : HexFault → Option ℕ → Status
unread_status refused.NotHex place = InputRefused place
unread_status refused.Failed place = Failed

-- how the program ends if the language has no interpreter to begin with
abbrev pub begin_status : BeginFault → Status
begin_status (faults.Refused said) = BeginRefused said
begin_status faults.OutOfMemory = Failed

-- how the program ends after its kernel, by how that served
abbrev pub ended_status : Served → Status
ended_status served = if served.complete then Ended served else Incomplete
