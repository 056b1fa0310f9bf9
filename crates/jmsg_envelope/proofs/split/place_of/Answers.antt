use Rattle.std.proofs.Common.{sym, arith}
use Rattle.listed.specs.Bodies.{bodies}
use Rattle.jmsg_envelope.proofs.Delimiters.{none_found, too_short}
use Rattle.jmsg_envelope.proofs.Cuts.{bodies_found, length_of_bodies}
use Rattle.jmsg_envelope.proofs.split.place_of.Goals as goal

pub returns-in_default-clause-err : goal.returns-in_default-clause-err
returns-in_default-clause-err c =
    none_found (bodies c.args.frames.now) (bodies_found c.args.frames.now _ (sym c.in_default.ensures))

pub returns-then-frames-at-lt-FIXED_FRAMES-clause-err : goal.returns-then-frames-at-lt-FIXED_FRAMES-clause-err
returns-then-frames-at-lt-FIXED_FRAMES-clause-err c =
    too_short (bodies c.args.frames.now) c.in-Some.at (bodies_found c.args.frames.now _ (sym c.in-Some.ensures))
    (rw length_of_bodies (omega (arith, c.if-frames-at-lt-FIXED_FRAMES.true)))
