-- Command words beside what `clap` found in them.
use Rattle.std.proofs.Common.{◌≡◌, ◌⊎◌, inl, inr, ◌+◌, ℕ, List, [], Bool, true, false, Option, Some, None, String}
use Rattle.std.proofs.Common.{Global, map, option_map, string_bytes, refl, sym, ap, ap₂, subst, ◌∙◌, position, take}
use Rattle.std.proofs.Common.{bytes_eq, codes}
use Rattle.std.specs.Prelude.{Box, if◌then◌else◌}
use Rattle.std.specs.Box.{box_value}
use Rattle.std.specs.Option.{option_map_or}
use Rattle.std.proofs.lemmas.List.{take-map}
use Rattle.clap.specs.Words.{App, HasKind, HasMatchesOf, IsAmong, Row, Text, fault_of, is_simple, is_simple_and_free}
use Rattle.clap.specs.Words.{kind_of}
use Rattle.clap.specs.Words.{subcommand_name_of, subcommand_of, subcommand_rows, subcommand_rows_of}
use Rattle.clap.specs.declared.error.Error.{Error}
use Rattle.clap.specs.declared.parser.matches.ArgMatches.{ArgMatches}
use Rattle.clap.specs.declared.parser.matches.ArgMatches.TheViews.{out-ArgMatches, out-SubCommand}
use Rattle.clap.specs.declared.parser.matches.SubCommand.{SubCommand}
use Rattle.clap.proofs.OnLiterals.{clap_on_literals}
use Rattle.jmsg_envelope.proofs.Delimiters.{position-map}
use Rattle.kernel_words.specs.declared.words.Order.{Order}
use Rattle.kernel_words.specs.declared.words.Order.TheVariants.{Replay, Serve, KernelSpec, Help}
use Rattle.kernel_words.specs.declared.words.WordsFault.{WordsFault}
use Rattle.kernel_words.specs.declared.words.WordsFault.TheVariants.{Refused, OutOfMemory}
use Rattle.kernel_words.specs.Words.{IsOrder, IsOrdered, IsRefusedBy, TellsHelp, TellsRefusal, begins_with_serve, faults_of}
use Rattle.kernel_words.specs.Words.{heeded, is_file_option, order_by, program_command, words_of_file}

-- a pair by its two halves
pair_by_halves : {A B : Type 0} (o : Option (A × B)) (x : A) (y : B) → option_map (λ p. p.0) o ≡ Some x
    → option_map (λ p. p.1) o ≡ Some y → o ≡ Some (x, y)
pair_by_halves None x y first second = absurd (let e = first in cc)
pair_by_halves (Some p) x y first second =
    let left : p.0 ≡ x = let e = first in cc in
    let right : p.1 ≡ y = let e = second in cc in
    ap Some (ap₂ (λ a b. (a, b)) left right)

-- the command that was met, by its name and its options
pub command_met : (m : ArgMatches) (name : Text) (options : List Row)
    → option_map (λ p. p.0) (subcommand_rows_of m) ≡ Some name
    → option_map (λ p. p.1) (subcommand_rows_of m) ≡ Some options → subcommand_rows_of m ≡ Some (name, options)
command_met m name options first second = pair_by_halves (subcommand_rows_of m) name options first second

-- words are cut as their texts are
kept : (words : List (String Global)) (count : ℕ → ℕ) (found : Option ℕ)
    → option_map_or (λ at. take (at + count at) (map string_bytes words)) found (map string_bytes words)
    ≡ option_map_or (λ at. map string_bytes (take (at + count at) words)) found (map string_bytes words)
kept words count None = refl
kept words count (Some at) = take-map string_bytes (at + count at) words

-- of a `serve`, the words up to FILE are heeded
pub heeded_of_serve : (words : List (String Global)) (found : Option ℕ)
    → true ≡ begins_with_serve (map string_bytes words)
    → found ≡ position (λ word. is_file_option (string_bytes word)) words
    → heeded (map string_bytes words)
    ≡ option_map_or (λ at. map string_bytes (take (at + words_of_file (map string_bytes words) at) words)) found
    (map string_bytes words)
heeded_of_serve words found is place =
    let texts = map string_bytes words in
    ap (λ b. if b then option_map_or (λ at. take (at + words_of_file texts at) texts) (position is_file_option texts)
    texts else texts) (sym is)
    ∙ ap (λ o. option_map_or (λ at. take (at + words_of_file texts at) texts) o texts)
    (position-map is_file_option string_bytes words ∙ sym place)
    ∙ kept words (words_of_file texts) found

-- of any other command, all are
pub heeded_of_others : (words : List (String Global)) → false ≡ begins_with_serve (map string_bytes words)
    → heeded (map string_bytes words) ≡ map string_bytes words
heeded_of_others words is =
    let texts = map string_bytes words in
    ap (λ b. if b then option_map_or (λ at. take (at + words_of_file texts at) texts) (position is_file_option texts)
    texts else texts) (sym is)

-- the name of the command that was met, of its name and options
named_by : {Z : Type 0} (met : Option (Box SubCommand Z))
    → option_map (λ p. p.0) (subcommand_rows met)
    ≡ option_map (λ b. (out-SubCommand (box_value b)).name.now) met
named_by None = refl
named_by (Some box) = refl

-- the name of the command that was met
pub name_met : (m : ArgMatches) (name : Text) → subcommand_name_of m ≡ Some name
    → option_map (λ p. p.0) (subcommand_rows_of m) ≡ Some name
name_met m name is = named_by (out-ArgMatches m).subcommand ∙ is

-- a program's command is simple, and no option of it has a rule on another
pub command_is_free : (name : Text) → is_simple_and_free (program_command name) ≡ true
unfolding clap_on_literals
command_is_free name = refl

-- a program's command is simple, as `clap` calls one whose matches it defines
command_is_simple : (name : Text) → is_simple (program_command name) ≡ true
unfolding clap_on_literals
command_is_simple name = refl

-- words are one list, as the program heeds them and as `clap` reads them: what was found in them is an order
pub ordered_by : (name : Text) (words read : List Text) (app : App) (m : ArgMatches) (order : Order) → app ≡ program_command name
    → read ≡ heeded words → fault_of app read ≡ [] → HasMatchesOf app read m
    → order_by (subcommand_rows_of m) ≡ Some order → IsOrder name words order
ordered_by name words read app m order same is fine has found = record {
  fine = sym (ap₂ fault_of same is) ∙ fine;
  ordered = sym (ap order_by ((has (ap is_simple same ∙ command_is_simple name)).1 ∙ ap₂ subcommand_of same is)) ∙ found;
}

-- what a command orders is no help
named_no_help : (first second third : Bool) (key file : Text) (text : Text)
    → (if first then Some (Replay key) else if second then Some (Serve file) else if third then Some KernelSpec
    else None) ≡ Some (Help text) → ⊥
named_no_help true second third key file text is = let e = is in cc
named_no_help false true third key file text is = let e = is in cc
named_no_help false false true key file text is = let e = is in cc
named_no_help false false false key file text is = let e = is in cc

-- what is found in words is no help
no_help : (met : Option (Text × List Row)) (text : Text) → order_by met ≡ Some (Help text) → ⊥
no_help None text is = let e = is in cc
no_help (Some (name, options)) text is =
    named_no_help (bytes_eq name (codes "replay")) (bytes_eq name (codes "serve"))
    (bytes_eq name (codes "kernelspec")) _ _ text is

-- words that are fine are ordered by
pub is_ordered : (name : Text) (words : List Text) (order : Order) → IsOrder name words order
    → IsOrdered name words order
is_ordered name words (Replay key) order = order
is_ordered name words (Serve file) order = order
is_ordered name words KernelSpec order = order
is_ordered name words (Help text) order =
    absurd (no_help (subcommand_of (program_command name) (heeded words)) text order.ordered)

-- help that is told was asked for
pub is_helped : (name : Text) (words read : List Text) (app : App) (e : Error) (order : Order) → app ≡ program_command name
    → read ≡ heeded words → HasKind (fault_of app read) e → TellsHelp (kind_of e) order → IsOrdered name words order
is_helped name words read app e (Replay key) same is has tells = absurd tells
is_helped name words read app e (Serve file) same is has tells = absurd tells
is_helped name words read app e KernelSpec same is has tells = absurd tells
is_helped name words read app e (Help text) same is (inl memory) (inl help) = absurd (let a = memory in let b = help in cc)
is_helped name words read app e (Help text) same is (inl memory) (inr help) = absurd (let a = memory in let b = help in cc)
is_helped name words read app e (Help text) same is (inr among) (inl help) =
    inl (subst (λ k. IsAmong k (faults_of name words)) help
    (subst (λ found. IsAmong (kind_of e) found) (ap₂ fault_of same is) among))
is_helped name words read app e (Help text) same is (inr among) (inr help) =
    inr (subst (λ k. IsAmong k (faults_of name words)) help
    (subst (λ found. IsAmong (kind_of e) found) (ap₂ fault_of same is) among))

-- words that are refused have a fault
pub is_refused : (name : Text) (words read : List Text) (app : App) (e : Error) (fault : WordsFault) → app ≡ program_command name
    → read ≡ heeded words → HasKind (fault_of app read) e → TellsRefusal (kind_of e) fault → IsRefusedBy name words fault
is_refused name words read app e OutOfMemory same is has tells = tt
is_refused name words read app e (Refused text) same is (inl memory) tells = absurd (tells.0 memory)
is_refused name words read app e (Refused text) same is (inr among) tells = inl record {
  kind = kind_of e;
  found = subst (λ found. IsAmong (kind_of e) found) (ap₂ fault_of same is) among;
  no_help = tells.1;
  no_version = tells.2;
}

-- words that name no order are refused
pub is_unnamed : (name : Text) (words read : List Text) (app : App) (m : ArgMatches) (fault : WordsFault) → app ≡ program_command name
    → read ≡ heeded words → HasMatchesOf app read m
    → (fault ≡ OutOfMemory) ⊎ (order_by (subcommand_rows_of m) ≡ None) → IsRefusedBy name words fault
is_unnamed name words read app m OutOfMemory same is has why = tt
is_unnamed name words read app m (Refused text) same is has (inl memory) = absurd (let a = memory in cc)
is_unnamed name words read app m (Refused text) same is has (inr none) =
    inr (sym (ap order_by ((has (ap is_simple same ∙ command_is_simple name)).1 ∙ ap₂ subcommand_of same is)) ∙ none)
