-- The command words: what `clap`'s definitions make of them for the program's command.
use Rattle.std.specs.Prelude.{◌≡◌, ◌≢◌, ◌⊎◌, ℕ, ◌+◌, List, [], Bool, true, false, if◌then◌else◌, codes, nat_eq, take}
use Rattle.std.specs.Prelude.{Option, Some, None, position, slice_get, unwrap_or, ⊤}
use Rattle.std.specs.List.{starts_with}
use Rattle.std.specs.Option.{option_map_or}
use Rattle.std.specs.Str.{bytes_eq}
use Rattle.clap.specs.Simple.{on_top}
use Rattle.clap.specs.Kinds.{Kinds}
use Rattle.clap.specs.Words.{App, IsAmong, Row, Rule, Text, fault_of, first_of, new_app, new_rule, subcommand_of}
use Rattle.clap.specs.Words.{with_rule, with_subcommand}
use Rattle.clap.specs.declared.builder.action.ArgAction.TheVariants.{Set}
use Rattle.clap.specs.declared.error.kind.ErrorKind.{ErrorKind}
use Rattle.clap.specs.declared.error.kind.ErrorKind.TheVariants as kinds
use Rattle.kernel_words.specs.declared.words.Order.{Order}
use Rattle.kernel_words.specs.declared.words.Order.TheVariants.{Replay, Serve, KernelSpec, Help}
use Rattle.kernel_words.specs.declared.words.WordsFault.{WordsFault}
use Rattle.kernel_words.specs.declared.words.WordsFault.TheVariants.{Refused, OutOfMemory}

-- `--key KEY`
abbrev pub key_option : Rule
key_option = record (new_rule (codes "key")) { long = Some (codes "key"); action = Some Set; value_names = 1 }

-- `-f FILE`, which has to be there
abbrev pub file_option : Rule
file_option =
    record (new_rule (codes "file")) { short = Some 102; action = Some Set; value_names = 1; required = true }

-- `replay [--key KEY]`
abbrev pub replay_command : App
replay_command = with_rule (new_app (codes "replay")) key_option

-- `serve -f FILE`
abbrev pub serve_command : App
serve_command = with_rule (new_app (codes "serve")) file_option

-- `kernelspec`
abbrev pub kernelspec_command : App
kernelspec_command = new_app (codes "kernelspec")

-- the command of a program of this name, with a version and these commands; its words don't begin with its name
abbrev pub program_command : Text → App
program_command name =
    with_subcommand (with_subcommand (with_subcommand
    (on_top (λ top. record top { no_binary_name = true; has_version = true }) (new_app name))
    replay_command.top) serve_command.top) kernelspec_command.top

-- whether the first word is `serve`
abbrev pub begins_with_serve : List Text → Bool
begins_with_serve words = option_map_or (λ word. bytes_eq word (codes "serve")) (slice_get words 0) false

-- whether a word is the option `-f`, with FILE in the same word or without
abbrev pub is_file_option : Text → Bool
is_file_option word = starts_with nat_eq word (codes "-f")

-- how many words the option `-f` at this place takes with its FILE: one if FILE stands in the same word, and else two
abbrev pub words_of_file : List Text → ℕ → ℕ
words_of_file words at = option_map_or (λ word. if bytes_eq word (codes "-f") then 2 else 1) (slice_get words at) 1

-- The words that are heeded. Those of a `serve` after its FILE aren't, since Jupyter's programs append words of their
-- own to those of a kernelspec.
abbrev pub heeded : List Text → List Text
heeded words =
    if begins_with_serve words
    then option_map_or (λ at. take (at + words_of_file words at) words) (position is_file_option words) words
    else words

-- what a command with its options orders
abbrev pub order_named : Text → List Row → Option Order
order_named name options =
    if bytes_eq name (codes "replay") then Some (Replay (unwrap_or (first_of (codes "key") options) []))
    else if bytes_eq name (codes "serve") then Some (Serve (unwrap_or (first_of (codes "file") options) []))
    else if bytes_eq name (codes "kernelspec") then Some KernelSpec
    else None

-- what is ordered, by the command that the words name: without one, a replay without a key
abbrev pub order_by : Option (Text × List Row) → Option Order
order_by None = Some (Replay [])
order_by (Some (name, options)) = order_named name options

-- what the words of a program of this name order
abbrev pub order_of_words : Text → List Text → Option Order
order_of_words name words = order_by (subcommand_of (program_command name) (heeded words))

-- What is wrong with the words of a program of this name, or is asked in place of an order, as kinds of `clap`'s
-- errors. If they are fine that is nothing.
abbrev pub faults_of : Text → List Text → Kinds
faults_of name words = fault_of (program_command name) (heeded words)

-- the words of a program of this name are fine, and order this
pub record IsOrder (name : Text) (words : List Text) (order : Order) : Type 0 where
  pub fine : faults_of name words ≡ []
  pub ordered : order_of_words name words ≡ Some order

-- what an order says of the words of a program of this name: they order it, or ask for help or the version
abbrev pub IsOrdered : Text → List Text → Order → Type 0
IsOrdered name words (Replay key) = IsOrder name words (Replay key)
IsOrdered name words (Serve file) = IsOrder name words (Serve file)
IsOrdered name words KernelSpec = IsOrder name words KernelSpec
IsOrdered name words (Help text) =
    IsAmong kinds.DisplayHelp (faults_of name words) ⊎ IsAmong kinds.DisplayVersion (faults_of name words)

-- Something is wrong with the words of a program of this name, and that isn't a question for help or the version.
pub record AreWrong (name : Text) (words : List Text) : Type 0 where
  pub kind : ErrorKind
  pub found : IsAmong kind (faults_of name words)
  pub no_help : kind ≢ kinds.DisplayHelp
  pub no_version : kind ≢ kinds.DisplayVersion

-- what a refusal says of the words of a program of this name: something is wrong with them, or they name no order
abbrev pub IsRefusedBy : Text → List Text → WordsFault → Type 0
IsRefusedBy name words (Refused text) = AreWrong name words ⊎ (order_of_words name words ≡ None)
IsRefusedBy name words OutOfMemory = ⊤

-- what the kind of an error is if help or the version is told
abbrev pub TellsHelp : ErrorKind → Order → Type 0
TellsHelp found (Replay key) = ⊥
TellsHelp found (Serve file) = ⊥
TellsHelp found KernelSpec = ⊥
TellsHelp found (Help text) = (found ≡ kinds.DisplayHelp) ⊎ (found ≡ kinds.DisplayVersion)

-- what the kind of an error is not, if words are refused
abbrev pub TellsRefusal : ErrorKind → WordsFault → Type 0
TellsRefusal found (Refused text) =
    (found ≢ kinds.OutOfMemory) × (found ≢ kinds.DisplayHelp) × (found ≢ kinds.DisplayVersion)
TellsRefusal found OutOfMemory = ⊤
