-- The lines of an input are one text, for given courses and dates.
use Rattle.std.proofs.Common.{◌≡◌, sym, ◌∙◌, ap, subst}
use Rattle.std.specs.List.{flat_map}
use Rattle.zmtp_wire.specs.Frame.{text}
use Rattle.interp_core.specs.Interpreter.{Meaning}
use Rattle.kernel_session.specs.Laws.{SessionOnce}
use Rattle.kernel_session.specs.Session.{IsSession, EngineStanding}
use Rattle.kernel_replay.specs.Lines.{ending_text, printed_lines}
use Rattle.kernel_replay.specs.Session.{LinesHaveOneValue, begun, with_starting}
use Rattle.kernel_replay.specs.Stamp.{replay_setting}

pub lines_once : {State Cell T : Type 0} (m : Meaning State Cell) (stop : T) → SessionOnce m (λ (t : T). ⊥)
    → LinesHaveOneValue m
lines_once {State} m stop once state key runs input output other first second =
    let spelled : first.octets ≡ second.octets = let a = first.spelled in let b = second.spelled in cc in
    let one = first.printed in
    let two = second.printed in
    let session = subst (λ o. IsSession m ⊥ (replay_setting key) (begun state runs) o two.written two.left
    two.ending) (sym spelled) two.session in
    let (wrote, left, ends) = once stop (replay_setting key)
    (begun state runs) one.left two.left first.octets one.written
    two.written one.ending two.ending one.settled two.settled one.session session in
    one.printed
    ∙ ap (λ w. printed_lines w (flat_map text (with_starting key one.left.published)) (ending_text one.ending)) wrote
    ∙ ap (λ (s : EngineStanding State). printed_lines two.written (flat_map text (with_starting key s.published))
    (ending_text one.ending)) left
    ∙ ap (λ e. printed_lines two.written (flat_map text (with_starting key two.left.published)) (ending_text e)) ends
    ∙ sym two.printed
