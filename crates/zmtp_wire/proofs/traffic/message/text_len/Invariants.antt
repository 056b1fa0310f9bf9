use Rattle.std.proofs.Common.{◌≡◌, ◌+◌, length, drop}
use Rattle.listed.specs.Bodies.{bodies}
use Rattle.zmtp_wire.specs.Frame.{text}
use Rattle.zmtp_wire.proofs.traffic.message.text_len.Given as goal

abbrev pub invariant-loop-frame : goal.invariant-loop-frame
invariant-loop-frame l =
    l.len + length (text (bodies (drop l.frame-index l.frames))) ≡ length (text (bodies l.frames))
