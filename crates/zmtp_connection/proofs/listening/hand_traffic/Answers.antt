use Rattle.std.proofs.Common.{◌≡◌, ◌∷◌, List, false, sym, ◌∙◌, subst}
use Rattle.std.specs.Vec.Iter.{into_iter_items}
use Rattle.zmtp_wire.specs.declared.traffic.Traffic.{Traffic}
use Rattle.zmtp_wire.specs.Traffic.{is_error}
use Rattle.zmtp_connection.proofs.HandLemmas.{HandedSoFar, handed_more}
use Rattle.zmtp_connection.proofs.listening.hand_traffic.Goals as goal

pub loop-item-preserved : goal.loop-item-preserved
loop-item-preserved g c =
    let rest = into_iter_items c.next.new.self in
    let first : into_iter_items c.loop-item.item-iterator ≡ c.in-Some.item ∷ rest = c.in-Some.ensures.steps.0 in
    let harmless : is_error c.in-Some.item ≡ false = sym c.is_error.ensures ∙ c.if-is_error.false in
    record {
      same = c.in_default.ensures.names ∙ c.loop-item.invariant.same;
      so_far = handed_more g.L.Listener.hears c.args.listener.now c.args.traffic c.in-Some.item rest
          c.loop-item.listener
          c.hear.new.self
          (subst (λ (r : List Traffic). HandedSoFar g.L.Listener.hears c.args.listener.now c.args.traffic r
          c.loop-item.listener) first c.loop-item.invariant.so_far) harmless c.in_default.ensures.hears;
    }
