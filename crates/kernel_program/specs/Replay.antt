-- What a replay says of its input and output by its status.
use Rattle.std.specs.Prelude.{ℕ, List, Option, ⊤}
use Rattle.std.specs.Io.KnownBytes.{Appends}
use Rattle.interp_core.specs.Interpreter.{Meaning}
use Rattle.kernel_replay.specs.Replay.{IsNotHex, IsReplayed, PrintsAll}
use Rattle.kernel_program.specs.declared.status.Status.{Status}
use Rattle.kernel_program.specs.declared.status.Status.TheVariants.{Done, Ended, Failed, OutputFailed, WordsRefused}
use Rattle.kernel_program.specs.declared.status.Status.TheVariants.{WordsUnreadable, FileUnreadable, FileRefused}
use Rattle.kernel_program.specs.declared.status.Status.TheVariants.{CannotBind, Incomplete, InputRefused, BeginRefused}

module _ {State Cell : Type 0} (m : Meaning State Cell) (state : State) where
  -- what each status says of octets that were answered, with what the writer holds before and after
  abbrev pub EndsAnswer : List ℕ → List ℕ → Option (List ℕ) → Option (List ℕ) → Status → Type 0
  EndsAnswer key octets before after Done = (output : List ℕ) × PrintsAll m state key octets output
      × Appends before after output
  EndsAnswer key octets before after (Ended served) = ⊥
  EndsAnswer key octets before after Failed = ⊤
  EndsAnswer key octets before after (OutputFailed why) = ⊤
  EndsAnswer key octets before after (WordsRefused said) = ⊥
  EndsAnswer key octets before after WordsUnreadable = ⊥
  EndsAnswer key octets before after (FileUnreadable why) = ⊥
  EndsAnswer key octets before after (FileRefused fault) = ⊥
  EndsAnswer key octets before after (CannotBind port why) = ⊥
  EndsAnswer key octets before after Incomplete = ⊥
  EndsAnswer key octets before after (InputRefused place) = ⊥
  EndsAnswer key octets before after (BeginRefused said) = ⊥

  -- what each status says, with what the reader and the writer hold before and after
  abbrev pub Replays : List ℕ → Option (List ℕ) → Option (List ℕ) → Option (List ℕ) → Option (List ℕ) → Status → Type 0
  Replays key input left before after Done = IsReplayed m state key input left before after
  Replays key input left before after (Ended served) = ⊥
  Replays key input left before after Failed = ⊤
  Replays key input left before after (OutputFailed why) = ⊤
  Replays key input left before after (WordsRefused said) = ⊥
  Replays key input left before after WordsUnreadable = ⊥
  Replays key input left before after (FileUnreadable why) = ⊥
  Replays key input left before after (FileRefused fault) = ⊥
  Replays key input left before after (CannotBind port why) = ⊥
  Replays key input left before after Incomplete = ⊥
  Replays key input left before after (InputRefused place) = IsNotHex input
  Replays key input left before after (BeginRefused said) = ⊥
