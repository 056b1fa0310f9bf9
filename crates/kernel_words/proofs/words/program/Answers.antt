use Rattle.std.proofs.Common.{rules, ◌≡◌, ℕ, List, true, ap, ap₂, ◌∙◌}
use Rattle.std.proofs.lemmas.Result.{IfOk-weaker}
use Rattle.clap.specs.Words.{App, app_of, new_app, with_subcommand}
use Rattle.clap.specs.Simple.{app_of_fields, on_top}
use Rattle.kernel_words.specs.Words.{replay_command, serve_command}
use Rattle.kernel_words.proofs.words.program.Goals as goal

-- a program's command before its commands are added
abbrev bare : List ℕ → App
bare name = on_top (λ top. record top { no_binary_name = true; has_version = true }) (new_app name)

pub returns : goal.returns
returns c =
    let plain : app_of c.after_help-command.result ≡ bare c.args.name.now = search rules in
    let top : app_of c.in_ok-named.named ≡ bare c.args.name.now = ap app_of_fields c.in_ok-named.ensures.0 ∙ plain in
    let one : app_of c.in_ok-replaying.replaying ≡ with_subcommand (bare c.args.name.now) replay_command.top =
    c.in_ok-replaying.ensures ∙ ap (λ a. with_subcommand a replay_command.top) top in
    let two : app_of c.in_ok-serving.serving
    ≡ with_subcommand (with_subcommand (bare c.args.name.now) replay_command.top) serve_command.top =
    c.in_ok-serving.ensures ∙ ap (λ a. with_subcommand a serve_command.top) one in
    IfOk-weaker c.subcommand.result _ _ (λ command added. added.shape (search rules)
    ∙ ap₂ with_subcommand two (ap (λ (a : App). a.top) c.kernelspec.ensures.0)) c.subcommand.ensures
