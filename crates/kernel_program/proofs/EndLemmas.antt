-- What a program's way to end says of its order, by what the parts of the program say.
use Rattle.std.proofs.Common.{◌≡◌, ◌⊎◌, inl, inr, ℕ, List, Option, Some, None, refl}
use Rattle.std.specs.Prelude.{IfSome, []}
use Rattle.interp_core.specs.Interpreter.{Meaning}
use Rattle.kernel_replay.specs.declared.input.HexFault.{HexFault}
use Rattle.kernel_replay.specs.declared.input.HexFault.TheVariants as unread
use Rattle.kernel_program.specs.declared.language.BeginFault.{BeginFault}
use Rattle.kernel_program.specs.declared.language.BeginFault.TheVariants as unbegun
use Rattle.kernel_serve.specs.declared.serving.Served.{Served}
use Rattle.kernel_program.specs.declared.status.Status.{Status}
use Rattle.kernel_program.specs.declared.status.Status.TheVariants.{Done, Ended, Failed, OutputFailed, WordsRefused}
use Rattle.kernel_program.specs.declared.status.Status.TheVariants.{WordsUnreadable, FileUnreadable, FileRefused}
use Rattle.kernel_program.specs.declared.status.Status.TheVariants.{CannotBind, Incomplete, InputRefused, BeginRefused}
use Rattle.kernel_words.specs.declared.words.Order.{Order}
use Rattle.kernel_words.specs.declared.words.Order.TheVariants.{Replay, Serve}
use Rattle.kernel_replay.specs.Lines.{hex_octets}
use Rattle.kernel_program.specs.Profile.{IsRefusal, Profile}
use Rattle.kernel_program.specs.Program.{EndsPrint, EndsReplay, EndsServe, EndsServing, IfEnded, IsCarriedOut}
use Rattle.kernel_program.specs.Program.{PrintsNothing}
use Rattle.kernel_program.specs.Program.{IsUnbegun, JudgesFile}
use Rattle.kernel_program.specs.Program.{Obeys}
use Rattle.kernel_replay.specs.Replay.{IsNotHex, IsReplayed}
use Rattle.kernel_program.specs.Replay.{EndsAnswer, Replays}
use Rattle.kernel_program.specs.Status.{begin_status, unread_status}

-- what is served ends as if any reason to refuse an interpreter were allowed
pub serving_weaker : (Refuses : List ℕ → Type 0) (status : Status) → EndsServing (λ said. ⊥) status
    → EndsServing Refuses status
serving_weaker Refuses Done ends = absurd ends
serving_weaker Refuses (Ended served) ends = tt
serving_weaker Refuses Failed ends = tt
serving_weaker Refuses (OutputFailed why) ends = absurd ends
serving_weaker Refuses (WordsRefused said) ends = absurd ends
serving_weaker Refuses WordsUnreadable ends = absurd ends
serving_weaker Refuses (FileUnreadable why) ends = absurd ends
serving_weaker Refuses (FileRefused fault) ends = absurd ends
serving_weaker Refuses (CannotBind port why) ends = tt
serving_weaker Refuses Incomplete ends = absurd ends
serving_weaker Refuses (InputRefused place) ends = absurd ends
serving_weaker Refuses (BeginRefused said) ends = absurd ends

-- a kernel without an interpreter
pub serving_unbegun : {State : Type 0} (profile : Profile State) (fault : BeginFault) → IsRefusal profile fault
    → EndsServing profile.Refuses (begin_status fault)
serving_unbegun profile (unbegun.Refused said) refused = refused
serving_unbegun profile unbegun.OutOfMemory refused = tt

-- octets of a file that are served or judged
pub serve_of_octets : (Refuses : List ℕ → Type 0) (octets : List ℕ) (status : Status)
    → EndsServing Refuses status ⊎ JudgesFile octets status → EndsServe Refuses status
serve_of_octets Refuses octets Done (inl ends) = absurd ends
serve_of_octets Refuses octets Done (inr ends) = absurd ends
serve_of_octets Refuses octets (Ended served) ends = tt
serve_of_octets Refuses octets Failed ends = tt
serve_of_octets Refuses octets (OutputFailed why) (inl ends) = absurd ends
serve_of_octets Refuses octets (OutputFailed why) (inr ends) = absurd ends
serve_of_octets Refuses octets (WordsRefused said) (inl ends) = absurd ends
serve_of_octets Refuses octets (WordsRefused said) (inr ends) = absurd ends
serve_of_octets Refuses octets WordsUnreadable (inl ends) = absurd ends
serve_of_octets Refuses octets WordsUnreadable (inr ends) = absurd ends
serve_of_octets Refuses octets (FileUnreadable why) ends = tt
serve_of_octets Refuses octets (FileRefused fault) ends = tt
serve_of_octets Refuses octets (CannotBind port why) ends = tt
serve_of_octets Refuses octets Incomplete (inl ends) = absurd ends
serve_of_octets Refuses octets Incomplete (inr ends) = absurd ends
serve_of_octets Refuses octets (InputRefused place) (inl ends) = absurd ends
serve_of_octets Refuses octets (InputRefused place) (inr ends) = absurd ends
serve_of_octets Refuses octets (BeginRefused said) (inl ends) = ends
serve_of_octets Refuses octets (BeginRefused said) (inr ends) = absurd ends

-- printing ends in no silent way
pub print_is_not_silent : (status : Status) → EndsPrint status → PrintsNothing status → ⊥
print_is_not_silent Done ends silent = silent
print_is_not_silent (Ended served) ends silent = ends
print_is_not_silent Failed ends silent = silent
print_is_not_silent (OutputFailed why) ends silent = silent
print_is_not_silent (WordsRefused said) ends silent = ends
print_is_not_silent WordsUnreadable ends silent = ends
print_is_not_silent (FileUnreadable why) ends silent = ends
print_is_not_silent (FileRefused fault) ends silent = ends
print_is_not_silent (CannotBind port why) ends silent = ends
print_is_not_silent Incomplete ends silent = ends
print_is_not_silent (InputRefused place) ends silent = ends
print_is_not_silent (BeginRefused said) ends silent = ends

-- what printing says of a kernel that served: there was none
pub print_serves_none : (How : Served → Type 0) (status : Status) → EndsPrint status → IfEnded status How
print_serves_none How Done ends = tt
print_serves_none How (Ended served) ends = absurd ends
print_serves_none How Failed ends = tt
print_serves_none How (OutputFailed why) ends = tt
print_serves_none How (WordsRefused said) ends = tt
print_serves_none How WordsUnreadable ends = tt
print_serves_none How (FileUnreadable why) ends = tt
print_serves_none How (FileRefused fault) ends = tt
print_serves_none How (CannotBind port why) ends = tt
print_serves_none How Incomplete ends = tt
print_serves_none How (InputRefused place) ends = tt
print_serves_none How (BeginRefused said) ends = tt

-- nor was there one if the octets of a file were refused
pub judge_serves_none : (How : Served → Type 0) (octets : List ℕ) (status : Status) → JudgesFile octets status
    → IfEnded status How
judge_serves_none How octets Done ends = tt
judge_serves_none How octets (Ended served) ends = absurd ends
judge_serves_none How octets Failed ends = tt
judge_serves_none How octets (OutputFailed why) ends = tt
judge_serves_none How octets (WordsRefused said) ends = tt
judge_serves_none How octets WordsUnreadable ends = tt
judge_serves_none How octets (FileUnreadable why) ends = tt
judge_serves_none How octets (FileRefused fault) ends = tt
judge_serves_none How octets (CannotBind port why) ends = tt
judge_serves_none How octets Incomplete ends = tt
judge_serves_none How octets (InputRefused place) ends = tt
judge_serves_none How octets (BeginRefused said) ends = tt

-- nor without an interpreter
pub unbegun_serves_none : (How : Served → Type 0) (fault : BeginFault) → IfEnded (begin_status fault) How
unbegun_serves_none How (unbegun.Refused said) = tt
unbegun_serves_none How unbegun.OutOfMemory = tt

module _ {State Cell : Type 0} (m : Meaning State Cell) (state : State) where
  -- octets that were read and answered
  is_replayed : (key octets : List ℕ) (input left before after : Option (List ℕ))
      → IfSome input (λ text. (left ≡ Some []) × (hex_octets text ≡ Some octets))
      → EndsAnswer m state key octets before after Done → IsReplayed m state key input left before after
  is_replayed key octets None left before after read ends = tt
  is_replayed key octets (Some text) left before after read (output, (runs, printed), appended) = (
    read.0,
    (runs, output, record { octets = octets; spelled = read.1; printed = printed }, appended),
  )

  -- what octets that were read and answered say of the replay
  pub replays_answer : (key octets : List ℕ) (input left before after : Option (List ℕ)) (status : Status)
      → IfSome input (λ text. (left ≡ Some []) × (hex_octets text ≡ Some octets))
      → EndsAnswer m state key octets before after status → Replays m state key input left before after status
  replays_answer key octets input left before after Done read ends =
      is_replayed key octets input left before after read ends
  replays_answer key octets input left before after (Ended served) read ends = absurd ends
  replays_answer key octets input left before after Failed read ends = tt
  replays_answer key octets input left before after (OutputFailed why) read ends = tt
  replays_answer key octets input left before after (WordsRefused said) read ends = absurd ends
  replays_answer key octets input left before after WordsUnreadable read ends = absurd ends
  replays_answer key octets input left before after (FileUnreadable why) read ends = absurd ends
  replays_answer key octets input left before after (FileRefused fault) read ends = absurd ends
  replays_answer key octets input left before after (CannotBind port why) read ends = absurd ends
  replays_answer key octets input left before after Incomplete read ends = absurd ends
  replays_answer key octets input left before after (InputRefused place) read ends = absurd ends
  replays_answer key octets input left before after (BeginRefused said) read ends = absurd ends

  -- an answer ends in no silent way
  pub answer_is_not_silent : (key octets : List ℕ) (before after : Option (List ℕ)) (status : Status)
      → EndsAnswer m state key octets before after status → PrintsNothing status → ⊥
  answer_is_not_silent key octets before after Done ends silent = silent
  answer_is_not_silent key octets before after (Ended served) ends silent = ends
  answer_is_not_silent key octets before after Failed ends silent = silent
  answer_is_not_silent key octets before after (OutputFailed why) ends silent = silent
  answer_is_not_silent key octets before after (WordsRefused said) ends silent = ends
  answer_is_not_silent key octets before after WordsUnreadable ends silent = ends
  answer_is_not_silent key octets before after (FileUnreadable why) ends silent = ends
  answer_is_not_silent key octets before after (FileRefused fault) ends silent = ends
  answer_is_not_silent key octets before after (CannotBind port why) ends silent = ends
  answer_is_not_silent key octets before after Incomplete ends silent = ends
  answer_is_not_silent key octets before after (InputRefused place) ends silent = ends
  answer_is_not_silent key octets before after (BeginRefused said) ends silent = ends

  -- what an input that gave no octets says of the replay
  pub replays_unread : (key : List ℕ) (input left before after : Option (List ℕ)) (fault : HexFault)
      (place : Option ℕ) → (fault ≡ unread.NotHex → IsNotHex input)
      → Replays m state key input left before after (unread_status fault place)
  replays_unread key input left before after unread.NotHex place refused = refused refl
  replays_unread key input left before after unread.Failed place refused = tt

  -- a replay that began isn't refused to begin
  pub begun_replay : (key : List ℕ) (input left before after : Option (List ℕ)) (status : Status)
      → Replays m state key input left before after status → IsUnbegun status → ⊥
  begun_replay key input left before after Done ends never = never
  begun_replay key input left before after (Ended served) ends never = never
  begun_replay key input left before after Failed ends never = never
  begun_replay key input left before after (OutputFailed why) ends never = never
  begun_replay key input left before after (WordsRefused said) ends never = never
  begun_replay key input left before after WordsUnreadable ends never = never
  begun_replay key input left before after (FileUnreadable why) ends never = never
  begun_replay key input left before after (FileRefused fault) ends never = never
  begun_replay key input left before after (CannotBind port why) ends never = never
  begun_replay key input left before after Incomplete ends never = never
  begun_replay key input left before after (InputRefused place) ends never = never
  begun_replay key input left before after (BeginRefused said) ends never = ends

module _ {State Cell : Type 0} (m : Meaning State Cell) (profile : Profile State) where
  -- a replay with an interpreter as the language begins them
  pub ends_replay : (state : State) (key : List ℕ) (input left before after : Option (List ℕ)) (status : Status)
      → profile.Begins state → Replays m state key input left before after status
      → EndsReplay m profile key input left before after status
  ends_replay state key input left before after Done begins ends =
      record { begun = state; begins = begins; replayed = ends }
  ends_replay state key input left before after (Ended served) begins ends = absurd ends
  ends_replay state key input left before after Failed begins ends = tt
  ends_replay state key input left before after (OutputFailed why) begins ends = tt
  ends_replay state key input left before after (WordsRefused said) begins ends = absurd ends
  ends_replay state key input left before after WordsUnreadable begins ends = absurd ends
  ends_replay state key input left before after (FileUnreadable why) begins ends = absurd ends
  ends_replay state key input left before after (FileRefused fault) begins ends = absurd ends
  ends_replay state key input left before after (CannotBind port why) begins ends = absurd ends
  ends_replay state key input left before after Incomplete begins ends = absurd ends
  ends_replay state key input left before after (InputRefused place) begins ends = ends
  ends_replay state key input left before after (BeginRefused said) begins ends = absurd ends

  -- a replay without an interpreter
  pub ends_unbegun : (key : List ℕ) (input left before after : Option (List ℕ)) (fault : BeginFault)
      → IsRefusal profile fault → EndsReplay m profile key input left before after (begin_status fault)
  ends_unbegun key input left before after (unbegun.Refused said) refused = refused
  ends_unbegun key input left before after unbegun.OutOfMemory refused = tt

  -- a replay serves no kernel
  pub replay_serves_none : (How : Served → Type 0) (key : List ℕ) (input left before after : Option (List ℕ))
      (status : Status) → EndsReplay m profile key input left before after status → IfEnded status How
  replay_serves_none How key input left before after Done ends = tt
  replay_serves_none How key input left before after (Ended served) ends = absurd ends
  replay_serves_none How key input left before after Failed ends = tt
  replay_serves_none How key input left before after (OutputFailed why) ends = tt
  replay_serves_none How key input left before after (WordsRefused said) ends = tt
  replay_serves_none How key input left before after WordsUnreadable ends = tt
  replay_serves_none How key input left before after (FileUnreadable why) ends = tt
  replay_serves_none How key input left before after (FileRefused fault) ends = tt
  replay_serves_none How key input left before after (CannotBind port why) ends = tt
  replay_serves_none How key input left before after Incomplete ends = tt
  replay_serves_none How key input left before after (InputRefused place) ends = tt
  replay_serves_none How key input left before after (BeginRefused said) ends = tt

  -- what a replay says of its order
  pub obeys_replay : (key : List ℕ) (input left before after : Option (List ℕ)) (status : Status)
      → EndsReplay m profile key input left before after status
      → Obeys m profile (Replay key) input left before after status
  obeys_replay key input left before after Done ends = ends
  obeys_replay key input left before after (Ended served) ends = absurd ends
  obeys_replay key input left before after Failed ends = tt
  obeys_replay key input left before after (OutputFailed why) ends = tt
  obeys_replay key input left before after (WordsRefused said) ends = absurd ends
  obeys_replay key input left before after WordsUnreadable ends = absurd ends
  obeys_replay key input left before after (FileUnreadable why) ends = absurd ends
  obeys_replay key input left before after (FileRefused fault) ends = absurd ends
  obeys_replay key input left before after (CannotBind port why) ends = absurd ends
  obeys_replay key input left before after Incomplete ends = absurd ends
  obeys_replay key input left before after (InputRefused place) ends = (tt, ends)
  obeys_replay key input left before after (BeginRefused said) ends = (inr tt, ends)

  -- what serving a file says of its order
  pub obeys_serve : (file : List ℕ) (input left before : Option (List ℕ)) (status : Status)
      → EndsServe profile.Refuses status → Obeys m profile (Serve file) input left before before status
  obeys_serve file input left before Done ends = absurd ends
  obeys_serve file input left before (Ended served) ends = refl
  obeys_serve file input left before Failed ends = tt
  obeys_serve file input left before (OutputFailed why) ends = tt
  obeys_serve file input left before (WordsRefused said) ends = absurd ends
  obeys_serve file input left before WordsUnreadable ends = absurd ends
  obeys_serve file input left before (FileUnreadable why) ends = tt
  obeys_serve file input left before (FileRefused fault) ends = tt
  obeys_serve file input left before (CannotBind port why) ends = tt
  obeys_serve file input left before Incomplete ends = absurd ends
  obeys_serve file input left before (InputRefused place) ends = absurd ends
  obeys_serve file input left before (BeginRefused said) ends = (inl tt, ends)

  -- what printing a text says of its order
  pub obeys_print : (order : Order) (input left before after : Option (List ℕ)) (status : Status)
      → (status ≡ Done → IsCarriedOut m profile order input left before after) → EndsPrint status
      → Obeys m profile order input left before after status
  obeys_print order input left before after Done done ends = done refl
  obeys_print order input left before after (Ended served) done ends = absurd ends
  obeys_print order input left before after Failed done ends = tt
  obeys_print order input left before after (OutputFailed why) done ends = tt
  obeys_print order input left before after (WordsRefused said) done ends = absurd ends
  obeys_print order input left before after WordsUnreadable done ends = absurd ends
  obeys_print order input left before after (FileUnreadable why) done ends = absurd ends
  obeys_print order input left before after (FileRefused fault) done ends = absurd ends
  obeys_print order input left before after (CannotBind port why) done ends = absurd ends
  obeys_print order input left before after Incomplete done ends = absurd ends
  obeys_print order input left before after (InputRefused place) done ends = absurd ends
  obeys_print order input left before after (BeginRefused said) done ends = absurd ends
