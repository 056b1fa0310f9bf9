use Rattle.std.proofs.Common.{rules, refl}
use Rattle.zmtp_connection.specs.Exchange.{source_at}
use Rattle.zmtp_connection.proofs.RespondLemmas.{responds_seen}
use Rattle.zmtp_connection.proofs.responding.respond.Goals as goal

pub returns-clause-responds : goal.returns-clause-responds
returns-clause-responds g c before holds =
    let (left, heard) = c.listen-ending.ensures.listens before holds in (
      left,
      rw c.flatten.ensures (responds_seen g.S.Server.answers (λ desk. record {
        outflow = g.W.Outlet.outflow desk.writer.now;
        serving = record { server = desk.server.now; dropped = desk.dropped };
      }) _ (g.W.Outlet.outflow c.args.writer.now) c.args.server.now refl before
          (source_at (g.R.Inlet.inflow c.args.reader.now) c.args.turns)
          (source_at (g.R.Inlet.inflow c.listen-ending.new.reader) left) c.listen-ending.new.listener _ _
          (search rules) (search rules) c.listen-ending.result heard),
    )
