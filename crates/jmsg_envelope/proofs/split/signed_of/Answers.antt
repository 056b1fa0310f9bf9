use Rattle.std.proofs.Common.{◌+◌, arith, refl, ◌∙◌}
use Rattle.listed.specs.Bodies.{bodies}
use Rattle.jmsg_envelope.specs.Split.{parts_at}
use Rattle.jmsg_envelope.proofs.Cuts.{bodies_found, body_at, length_of_bodies, split_at_place}
use Rattle.jmsg_envelope.proofs.split.signed_of.Goals as goal

pub returns-clause-ok : goal.returns-clause-ok
returns-clause-ok c =
    let frames = c.args.frames.now in
    let at = c.in_ok-at.at in
    let within = c.in_ok-at.ensures.whole in
    let signature = c.deref.ensures.value ∙ body_at frames (at + 1) _ (omega (arith, within)) c.index-frames-at.is in
    let header = c.deref-2.ensures.value ∙ body_at frames (at + 2) _ (omega (arith, within)) c.index-frames-at-2.is in
    let parent = c.deref-3.ensures.value ∙ body_at frames (at + 3) _ (omega (arith, within)) c.index-frames-at-3.is in
    let metadata = c.deref-4.ensures.value ∙ body_at frames (at + 4) _ (omega (arith, within)) c.index-frames-at-4.is in
    let content = c.deref-5.ensures.value
    ∙ body_at frames (at + 5) _ (omega (arith, within)) c.index-frames-at-5.is in (
      parts_at (bodies frames) at,
      split_at_place (bodies frames) at (bodies_found frames _ c.in_ok-at.ensures.found) (rw length_of_bodies within),
      rw (signature, header, parent, metadata, content) refl,
    )
