-- What a whole program says by its exit status. It says that of its command words, and of what its reader and its
-- writer hold before and after.
use Rattle.std.specs.Prelude.{◌≡◌, ◌⊎◌, ℕ, List, [], ◌∷◌, ◌++◌, Option, None, ⊤, Result, Err, IsOkAnd, MatchResult}
use Rattle.std.specs.Prelude.{IsUtf8, Vec, String, map, string_bytes}
use Rattle.std.specs.Global.{Global}
use Rattle.std.specs.IoError.{error_kind}
use Rattle.std.specs.Io.KnownBytes.{Appends}
use Rattle.std.specs.declared.io.Error.{Error}
use Rattle.std.specs.declared.io.ErrorKind.TheVariants.{InvalidData}
use Rattle.clap.specs.Words.{Text}
use Rattle.conn_file.specs.Connection.{connection_of}
use Rattle.interp_core.specs.Interpreter.{Meaning}
use Rattle.kernel_words.specs.declared.words.Order.{Order}
use Rattle.kernel_words.specs.declared.words.Order.TheVariants.{Replay, Serve, KernelSpec, Help}
use Rattle.kernel_serve.specs.declared.serving.Served.{Served}
use Rattle.kernel_program.specs.declared.status.Status.{Status}
use Rattle.kernel_program.specs.declared.status.Status.TheVariants.{Done, Ended, Failed, OutputFailed, WordsRefused}
use Rattle.kernel_program.specs.declared.status.Status.TheVariants.{WordsUnreadable, FileUnreadable, FileRefused}
use Rattle.kernel_program.specs.declared.status.Status.TheVariants.{CannotBind, Incomplete, InputRefused, BeginRefused}
use Rattle.kernel_program.specs.Profile.{Profile}
use Rattle.kernel_replay.specs.Replay.{IsNotHex, IsReplayed}
use Rattle.kernel_words.specs.Words.{AreWrong, IsOrder, IsOrdered, order_of_words}

-- the order is a replay
abbrev pub IsReplay : Order → Type 0
IsReplay (Replay key) = ⊤
IsReplay (Serve file) = ⊥
IsReplay KernelSpec = ⊥
IsReplay (Help text) = ⊥

-- the order is to serve
abbrev pub IsServe : Order → Type 0
IsServe (Replay key) = ⊥
IsServe (Serve file) = ⊤
IsServe KernelSpec = ⊥
IsServe (Help text) = ⊥

-- Why the octets of a connection file aren't served: they are no text, or the file is refused, or memory was wanting.
abbrev pub JudgesFile : List ℕ → Status → Type 0
JudgesFile octets Done = ⊥
JudgesFile octets (Ended served) = ⊥
JudgesFile octets Failed = ⊤
JudgesFile octets (OutputFailed why) = ⊥
JudgesFile octets (WordsRefused said) = ⊥
JudgesFile octets WordsUnreadable = ⊥
JudgesFile octets (FileUnreadable why) = ¬ (IsUtf8 octets)
JudgesFile octets (FileRefused fault) = connection_of octets ≡ Err fault
JudgesFile octets (CannotBind port why) = ⊥
JudgesFile octets Incomplete = ⊥
JudgesFile octets (InputRefused place) = ⊥
JudgesFile octets (BeginRefused said) = ⊥

-- How serving a connection may end. A kernel ended, and all that was published was taken. Or a port can't be bound. Or
-- memory, a thread or random octets were wanting. Or there was no interpreter to begin with, for one of these reasons.
abbrev pub EndsServing : (Text → Type 0) → Status → Type 0
EndsServing Refuses Done = ⊥
EndsServing Refuses (Ended served) = ⊤
EndsServing Refuses Failed = ⊤
EndsServing Refuses (OutputFailed why) = ⊥
EndsServing Refuses (WordsRefused said) = ⊥
EndsServing Refuses WordsUnreadable = ⊥
EndsServing Refuses (FileUnreadable why) = ⊥
EndsServing Refuses (FileRefused fault) = ⊥
EndsServing Refuses (CannotBind port why) = ⊤
EndsServing Refuses Incomplete = ⊥
EndsServing Refuses (InputRefused place) = ⊥
EndsServing Refuses (BeginRefused said) = Refuses said

-- how a kernel served, if one served and ended
abbrev pub IfEnded : Status → (Served → Type 0) → Type 0
IfEnded Done How = ⊤
IfEnded (Ended served) How = How served
IfEnded Failed How = ⊤
IfEnded (OutputFailed why) How = ⊤
IfEnded (WordsRefused said) How = ⊤
IfEnded WordsUnreadable How = ⊤
IfEnded (FileUnreadable why) How = ⊤
IfEnded (FileRefused fault) How = ⊤
IfEnded (CannotBind port why) How = ⊤
IfEnded Incomplete How = ⊤
IfEnded (InputRefused place) How = ⊤
IfEnded (BeginRefused said) How = ⊤

-- how it may end if a file is to be served: so as above, or the file can't be read, or it is refused
abbrev pub EndsServe : (Text → Type 0) → Status → Type 0
EndsServe Refuses Done = ⊥
EndsServe Refuses (Ended served) = ⊤
EndsServe Refuses Failed = ⊤
EndsServe Refuses (OutputFailed why) = ⊥
EndsServe Refuses (WordsRefused said) = ⊥
EndsServe Refuses WordsUnreadable = ⊥
EndsServe Refuses (FileUnreadable why) = ⊤
EndsServe Refuses (FileRefused fault) = ⊤
EndsServe Refuses (CannotBind port why) = ⊤
EndsServe Refuses Incomplete = ⊥
EndsServe Refuses (InputRefused place) = ⊥
EndsServe Refuses (BeginRefused said) = Refuses said

-- how it may end if a text is to be printed: that was done, or writing failed
abbrev pub EndsPrint : Status → Type 0
EndsPrint Done = ⊤
EndsPrint (Ended served) = ⊥
EndsPrint Failed = ⊤
EndsPrint (OutputFailed why) = ⊤
EndsPrint (WordsRefused said) = ⊥
EndsPrint WordsUnreadable = ⊥
EndsPrint (FileUnreadable why) = ⊥
EndsPrint (FileRefused fault) = ⊥
EndsPrint (CannotBind port why) = ⊥
EndsPrint Incomplete = ⊥
EndsPrint (InputRefused place) = ⊥
EndsPrint (BeginRefused said) = ⊥

-- with such a status the program ends before anything is printed
abbrev pub PrintsNothing : Status → Type 0
PrintsNothing Done = ⊥
PrintsNothing (Ended served) = ⊤
PrintsNothing Failed = ⊥
PrintsNothing (OutputFailed why) = ⊥
PrintsNothing (WordsRefused said) = ⊤
PrintsNothing WordsUnreadable = ⊤
PrintsNothing (FileUnreadable why) = ⊤
PrintsNothing (FileRefused fault) = ⊤
PrintsNothing (CannotBind port why) = ⊤
PrintsNothing Incomplete = ⊤
PrintsNothing (InputRefused place) = ⊤
PrintsNothing (BeginRefused said) = ⊤

-- with such a status the language refused to begin
abbrev pub IsUnbegun : Status → Type 0
IsUnbegun Done = ⊥
IsUnbegun (Ended served) = ⊥
IsUnbegun Failed = ⊥
IsUnbegun (OutputFailed why) = ⊥
IsUnbegun (WordsRefused said) = ⊥
IsUnbegun WordsUnreadable = ⊥
IsUnbegun (FileUnreadable why) = ⊥
IsUnbegun (FileRefused fault) = ⊥
IsUnbegun (CannotBind port why) = ⊥
IsUnbegun Incomplete = ⊥
IsUnbegun (InputRefused place) = ⊥
IsUnbegun (BeginRefused said) = ⊤

-- command words as the system gives them: texts, or the error of reading them
abbrev pub GivenWords : Type 0
GivenWords = Result (Vec (String Global) Global) Error

-- if the words could be read as texts, they say this
abbrev pub WordsSay : GivenWords → (List Text → Type 0) → Type 0
WordsSay words Says = IsOkAnd words (λ read. Says (map string_bytes read.items))

-- status 2: the words of a program of this name aren't texts, or they are wrong, or they name no order
abbrev pub RefusesWords : Text → GivenWords → Type 0
RefusesWords name words = MatchResult words (λ read. AreWrong name (map string_bytes read.items)
    ⊎ (order_of_words name (map string_bytes read.items) ≡ None)) (λ error. error_kind error ≡ InvalidData)

-- statuses 3 and 4: the words order that a connection file be served
abbrev pub OrdersServe : Text → GivenWords → Type 0
OrdersServe name words = WordsSay words (λ read. (file : List ℕ) × IsOrder name read (Serve file))

-- the words order a replay
abbrev pub OrdersReplay : Text → GivenWords → Type 0
OrdersReplay name words = WordsSay words (λ read. (key : List ℕ) × IsOrder name read (Replay key))

-- status 6: the words order a replay, and its input spells no octets
abbrev pub RefusesInput : Text → GivenWords → Option (List ℕ) → Type 0
RefusesInput name words input = OrdersReplay name words × IsNotHex input

-- Status 7: the words order a replay or that a file be served, and the language refuses an interpreter. It does so with
-- words with which it may refuse one.
pub record RefusesToBegin {State : Type 0} (profile : Profile State) (words : GivenWords) : Type 0 where
  pub ordered : OrdersServe profile.name words ⊎ OrdersReplay profile.name words
  pub said : List ℕ
  pub refused : profile.Refuses said

module _ {State Cell : Type 0} (m : Meaning State Cell) (profile : Profile State) where
  -- a replay printed its lines, and its interpreter began as those of the language may
  pub record IsReplayedFromBegun (key : List ℕ) (input left before after : Option (List ℕ)) : Type 0 where
    pub begun : State
    pub begins : profile.Begins begun
    pub replayed : IsReplayed m begun key input left before after

  -- What an order did that was carried out. A replay printed its lines. The kernelspec or the help stands on the
  -- output. If a connection file was served nothing is printed.
  abbrev pub IsCarriedOut : Order → Option (List ℕ) → Option (List ℕ) → Option (List ℕ) → Option (List ℕ) → Type 0
  IsCarriedOut (Replay key) input left before after = IsReplayedFromBegun key input left before after
  IsCarriedOut (Serve file) input left before after = after ≡ before
  IsCarriedOut KernelSpec input left before after = Appends before after (profile.kernelspec ++ 10 ∷ [])
  IsCarriedOut (Help text) input left before after = Appends before after text

  -- words that order something, which was done
  pub record Orders (words : List Text) (input left before after : Option (List ℕ)) : Type 0 where
    pub order : Order
    pub ordered : IsOrdered profile.name words order
    pub done : IsCarriedOut order input left before after

  -- status 0: the words order something, and that was done
  abbrev pub DoesOrder : GivenWords → Option (List ℕ) → Option (List ℕ) → Option (List ℕ) → Option (List ℕ) → Type 0
  DoesOrder words input left before after = WordsSay words (λ read. Orders read input left before after)

  -- what each way to end says of a replay that was ordered
  abbrev pub EndsReplay : List ℕ → Option (List ℕ) → Option (List ℕ) → Option (List ℕ) → Option (List ℕ) → Status
      → Type 0
  EndsReplay key input left before after Done = IsReplayedFromBegun key input left before after
  EndsReplay key input left before after (Ended served) = ⊥
  EndsReplay key input left before after Failed = ⊤
  EndsReplay key input left before after (OutputFailed why) = ⊤
  EndsReplay key input left before after (WordsRefused said) = ⊥
  EndsReplay key input left before after WordsUnreadable = ⊥
  EndsReplay key input left before after (FileUnreadable why) = ⊥
  EndsReplay key input left before after (FileRefused fault) = ⊥
  EndsReplay key input left before after (CannotBind port why) = ⊥
  EndsReplay key input left before after Incomplete = ⊥
  EndsReplay key input left before after (InputRefused place) = IsNotHex input
  EndsReplay key input left before after (BeginRefused said) = profile.Refuses said

  -- what each status says of an order, with what the reader and the writer hold before and after
  abbrev pub Obeys : Order → Option (List ℕ) → Option (List ℕ) → Option (List ℕ) → Option (List ℕ) → Status → Type 0
  Obeys order input left before after Done = IsCarriedOut order input left before after
  Obeys order input left before after (Ended served) = IsCarriedOut order input left before after
  Obeys order input left before after Failed = ⊤
  Obeys order input left before after (OutputFailed why) = ⊤
  Obeys order input left before after (WordsRefused said) = ⊥
  Obeys order input left before after WordsUnreadable = ⊥
  Obeys order input left before after (FileUnreadable why) = IsServe order
  Obeys order input left before after (FileRefused fault) = IsServe order
  Obeys order input left before after (CannotBind port why) = IsServe order
  Obeys order input left before after Incomplete = ⊥
  Obeys order input left before after (InputRefused place) = IsReplay order × IsNotHex input
  Obeys order input left before after (BeginRefused said) = (IsServe order ⊎ IsReplay order) × profile.Refuses said

  -- what each status says of the command words, with what the reader and the writer hold before and after
  abbrev pub ProgramEnds : GivenWords → Option (List ℕ) → Option (List ℕ) → Option (List ℕ) → Option (List ℕ) → Status
      → Type 0
  ProgramEnds words input left before after Done = DoesOrder words input left before after
  ProgramEnds words input left before after (Ended served) = DoesOrder words input left before after
  ProgramEnds words input left before after Failed = ⊤
  ProgramEnds words input left before after (OutputFailed why) = ⊤
  ProgramEnds words input left before after (WordsRefused said) = RefusesWords profile.name words
  ProgramEnds words input left before after WordsUnreadable = RefusesWords profile.name words
  ProgramEnds words input left before after (FileUnreadable why) = OrdersServe profile.name words
  ProgramEnds words input left before after (FileRefused fault) = OrdersServe profile.name words
  ProgramEnds words input left before after (CannotBind port why) = OrdersServe profile.name words
  ProgramEnds words input left before after Incomplete = ⊥
  ProgramEnds words input left before after (InputRefused place) = RefusesInput profile.name words input
  ProgramEnds words input left before after (BeginRefused said) = RefusesToBegin profile words
