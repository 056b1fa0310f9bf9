use Rattle.std.proofs.Common.{map, string_bytes, ap, ◌∙◌}
use Rattle.std.proofs.lemmas.Result.{IfErr-weaker, IfOk-weaker}
use Rattle.clap.specs.Words.{app_of, is_simple_and_free}
use Rattle.kernel_words.proofs.WordsLemmas.{command_is_free, is_helped, is_ordered, is_refused, is_unnamed, ordered_by}
use Rattle.kernel_words.proofs.words.read_words.Goals as goal

pub returns-in-Ok-clause-ordered : goal.returns-in-Ok-clause-ordered
returns-in-Ok-clause-ordered c =
    let words = map string_bytes c.args.words.now in
    let same = c.in_ok-program.ensures in
    let fine = c.in-Ok.ensures.kinds (ap is_simple_and_free same ∙ command_is_free c.args.name.now) in
    IfOk-weaker c.order_in-order.result _ _ (λ order found. is_ordered c.args.name.now words order (ordered_by c.args.name.now words _
    (app_of c.in_ok-program.field-0) c.in-Ok.matches order same c.heeded.ensures fine c.in-Ok.ensures.matches found))
    c.order_in-order.ensures.ordered

pub returns-in-Ok-clause-refused : goal.returns-in-Ok-clause-refused
returns-in-Ok-clause-refused c =
    let words = map string_bytes c.args.words.now in
    IfErr-weaker c.order_in-order.result _ _ (λ fault why. is_unnamed c.args.name.now words _ (app_of c.in_ok-program.field-0)
    c.in-Ok.matches fault c.in_ok-program.ensures c.heeded.ensures c.in-Ok.ensures.matches why)
    c.order_in-order.ensures.none

pub returns-in-Err-clause-ordered : goal.returns-in-Err-clause-ordered
returns-in-Err-clause-ordered c =
    let words = map string_bytes c.args.words.now in
    let same = c.in_ok-program.ensures in
    let has = c.in-Err.ensures.kinds (ap is_simple_and_free same ∙ command_is_free c.args.name.now) in
    IfOk-weaker c.told-order.result _ _ (λ order tells. is_helped c.args.name.now words _ (app_of c.in_ok-program.field-0)
    c.in-Err.error order same c.heeded.ensures has tells) c.told-order.ensures.help

pub returns-in-Err-clause-refused : goal.returns-in-Err-clause-refused
returns-in-Err-clause-refused c =
    let words = map string_bytes c.args.words.now in
    let same = c.in_ok-program.ensures in
    let has = c.in-Err.ensures.kinds (ap is_simple_and_free same ∙ command_is_free c.args.name.now) in
    IfErr-weaker c.told-order.result _ _ (λ fault tells. is_refused c.args.name.now words _ (app_of c.in_ok-program.field-0)
    c.in-Err.error fault same c.heeded.ensures has tells) c.told-order.ensures.refusal
