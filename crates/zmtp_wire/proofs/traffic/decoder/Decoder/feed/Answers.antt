use Rattle.std.proofs.Common.{◌≡◌, ◌++◌, false, subst}
use Rattle.zmtp_wire.specs.declared.traffic.limits.Limits.{Limits}
use Rattle.zmtp_wire.specs.Decoding.{Decoding}
use Rattle.zmtp_wire.specs.Grammar.{ReadsUpTo, IsUnfinished}
use Rattle.zmtp_wire.specs.Pending.{pending_octets}
use Rattle.zmtp_wire.proofs.FeedLemmas.{unfinished_pending}
use Rattle.zmtp_wire.proofs.traffic.decoder.Decoder.feed.Goals as goal

pub returns-in-Ok-clause-fed : goal.returns-in-Ok-clause-fed
returns-in-Ok-clause-fed c =
    let new = c.read_piece.new.pending in
    let P : Decoding → Type 0 = λ old. old.spent ≡ false →
    ReadsUpTo old.limits (old.kept ++ c.args.piece.now) c.new-in-Ok.result (pending_octets new)
    × IsUnfinished old.limits (pending_octets new) × (c.self.inside.is_spent ≡ false) in
    subst P c.self.view_is (λ unspent. (
      rw c.new-in-Ok.ensures c.in-Ok.ensures.ok,
      subst (λ (l : Limits). IsUnfinished l (pending_octets new)) c.in-Ok.ensures.limits
          (unfinished_pending new c.in-Ok.ensures.pending),
      unspent,
    ))
