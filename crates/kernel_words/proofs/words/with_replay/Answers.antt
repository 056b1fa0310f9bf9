use Rattle.std.proofs.Common.{rules, ap, ◌∙◌}
use Rattle.std.proofs.lemmas.Result.{IfOk-weaker}
use Rattle.clap.specs.Words.{App, app_of, with_subcommand}
use Rattle.kernel_words.proofs.words.with_replay.Goals as goal

pub returns-in-Ok : goal.returns-in-Ok
returns-in-Ok c =
    IfOk-weaker c.subcommand.result _ _ (λ command added. added.shape (search rules)
    ∙ ap (λ (a : App). with_subcommand (app_of c.args.command) a.top) c.in-Ok.ensures.0) c.subcommand.ensures
