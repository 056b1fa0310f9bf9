use Rattle.std.proofs.Common.{rules, ◌≡◌, subst, ◌∙◌}
use Rattle.zmtp_connection.specs.Exchange.{devices_at}
use Rattle.zmtp_connection.proofs.SightLemmas.{peer_seen_as}
use Rattle.kernel_session.proofs.working.employ.Goals as goal

pub returns : goal.returns
returns g c =
    peer_seen_as (record {
      view = λ working. working.worker.now;
      holds = λ working. working.stop ≡ c.args.stop;
      steps = λ old new message reply answered holds step. (
        step.1 ∙ holds,
        subst (λ stop. g.E.Worker.works (g.T.Stop.may_ask stop.now) old.worker.now message reply new.worker.now
            answered) holds step.0,
      );
    }) _ _ c.serve.new.server _
    (devices_at (g.R.Inlet.inflow c.args.reader.now) c.args.turns (g.W.Outlet.outflow c.args.writer.now))
    (λ left. devices_at (g.R.Inlet.inflow c.serve.new.reader) left (g.W.Outlet.outflow c.serve.new.writer))
    c.serve.result (search rules) (search rules) c.serve.ensures.serves
