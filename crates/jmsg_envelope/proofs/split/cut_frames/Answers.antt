use Rattle.std.proofs.Common.{◌≡◌, Some, sym, ◌∙◌, arith, refl, position}
use Rattle.jmsg_envelope.specs.Split.{is_delimiter}
use Rattle.jmsg_envelope.proofs.Cuts.{IsSplit-from_taken}
use Rattle.jmsg_envelope.specs.declared.split.Split.{Split}
use Rattle.jmsg_envelope.proofs.split.cut_frames.Goals as goal

pub returns-clause-ok : goal.returns-clause-ok
returns-clause-ok c =
    let found : position (λ f. is_delimiter f.items) c.args.frames.items ≡ Some c.in_ok-at.at =
    rw c.deref.ensures.value at c.in_ok-at.ensures.found in
    let split : Split = record {
      identities = c.take_last-delimiter.new.self;
      signature = c.take_last-signature.result;
      header = c.take_last-header.result;
      parent = c.take_last-parent.result;
      metadata = c.take_last-metadata.result;
      content = c.take_last-content.result;
      buffers = c.in_ok-buffers.buffers;
    } in
    let cut = c.in_ok-buffers.ensures.len in
    IsSplit-from_taken c.args.frames.items c.in_ok-at.at c.take_last-delimiter.result split record {
      front = sym c.in_ok-buffers.ensures.items
          ∙ rw (
            c.take_last-content.ensures.items,
            c.take_last-metadata.ensures.items,
            c.take_last-parent.ensures.items,
            c.take_last-header.ensures.items,
            c.take_last-signature.ensures.items,
            c.take_last-delimiter.ensures.items,
          ) refl;
      back = sym c.in_ok-buffers.ensures.tail;
      place = omega (arith, cut, c.take_last-delimiter.new.self.ok.0);
    } found
