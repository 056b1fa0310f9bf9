-- What words order, by what was done.
use Rattle.std.proofs.Common.{inl, inr, ℕ, List, Option, Ok, String, Global, map, string_bytes}
use Rattle.std.specs.Prelude.{Vec}
use Rattle.clap.specs.Words.{Text}
use Rattle.interp_core.specs.Interpreter.{Meaning}
use Rattle.kernel_program.specs.declared.status.Status.{Status}
use Rattle.kernel_program.specs.declared.status.Status.TheVariants.{Done, Ended, Failed, OutputFailed, WordsRefused}
use Rattle.kernel_program.specs.declared.status.Status.TheVariants.{WordsUnreadable, FileUnreadable, FileRefused}
use Rattle.kernel_program.specs.declared.status.Status.TheVariants.{CannotBind, Incomplete, InputRefused, BeginRefused}
use Rattle.kernel_words.specs.declared.words.Order.{Order}
use Rattle.kernel_words.specs.declared.words.Order.TheVariants.{Replay, Serve, KernelSpec, Help}
use Rattle.kernel_program.specs.Profile.{Profile}
use Rattle.kernel_program.specs.Program.{ProgramEnds, IsReplay, IsServe, Obeys}
use Rattle.kernel_words.specs.Words.{IsOrder, IsOrdered}

-- words order that a file be served, if what they order is to serve
serve_ordered : (name : Text) (words : List Text) (order : Order) → IsOrdered name words order → IsServe order
    → (file : List ℕ) × IsOrder name words (Serve file)
serve_ordered name words (Replay key) ordered never = absurd never
serve_ordered name words (Serve file) ordered serves = (file, ordered)
serve_ordered name words KernelSpec ordered never = absurd never
serve_ordered name words (Help text) ordered never = absurd never

-- words order a replay, if what they order is one
pub replay_ordered : (name : Text) (words : List Text) (order : Order) → IsOrdered name words order → IsReplay order
    → (key : List ℕ) × IsOrder name words (Replay key)
replay_ordered name words (Replay key) ordered replays = (key, ordered)
replay_ordered name words (Serve file) ordered never = absurd never
replay_ordered name words KernelSpec ordered never = absurd never
replay_ordered name words (Help text) ordered never = absurd never

-- what words that are texts say, by what their order says
pub ends_by_order : {State Cell : Type 0} (m : Meaning State Cell) (profile : Profile State)
    (words : Vec (String Global) Global) (order : Order) (input left before after : Option (List ℕ)) (status : Status)
    → IsOrdered profile.name (map string_bytes words.items) order
    → Obeys m profile order input left before after status
    → ProgramEnds m profile (Ok words) input left before after status
ends_by_order m profile words order input left before after Done ordered obeys =
    record { order = order; ordered = ordered; done = obeys }
ends_by_order m profile words order input left before after (Ended served) ordered obeys =
    record { order = order; ordered = ordered; done = obeys }
ends_by_order m profile words order input left before after Failed ordered obeys = tt
ends_by_order m profile words order input left before after (OutputFailed why) ordered obeys = tt
ends_by_order m profile words order input left before after (WordsRefused said) ordered obeys = absurd obeys
ends_by_order m profile words order input left before after WordsUnreadable ordered obeys = absurd obeys
ends_by_order m profile words order input left before after (FileUnreadable why) ordered obeys =
    serve_ordered profile.name _ order ordered obeys
ends_by_order m profile words order input left before after (FileRefused fault) ordered obeys =
    serve_ordered profile.name _ order ordered obeys
ends_by_order m profile words order input left before after (CannotBind port why) ordered obeys =
    serve_ordered profile.name _ order ordered obeys
ends_by_order m profile words order input left before after Incomplete ordered obeys = absurd obeys
ends_by_order m profile words order input left before after (InputRefused place) ordered obeys =
    (replay_ordered profile.name _ order ordered obeys.0, obeys.1)
ends_by_order m profile words order input left before after (BeginRefused said) ordered obeys = record {
  ordered = elim obeys.0 [
    | inl serves ↦ inl (serve_ordered profile.name _ order ordered serves)
    | inr replays ↦ inr (replay_ordered profile.name _ order ordered replays)
  ];
  said = said;
  refused = obeys.1;
}
