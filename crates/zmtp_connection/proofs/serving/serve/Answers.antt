use Rattle.std.proofs.Common.{false, refl}
use Rattle.zmtp_connection.specs.Exchange.{devices_at}
use Rattle.zmtp_connection.specs.declared.end.Ending.TheVariants.{Connection}
use Rattle.zmtp_connection.proofs.ServeLemmas.{serve_open, serve_away}
use Rattle.zmtp_connection.proofs.serving.serve.Goals as goal

pub returns-in-Err-clause-serves : goal.returns-in-Err-clause-serves
returns-in-Err-clause-serves g c = (
  c.shake_within.new.turns,
  false,
  Connection c.in-Err.end,
  serve_away g.S.Server.answers c.args.ours c.args.server.now
      (devices_at (g.R.Inlet.inflow c.args.reader.now) c.args.turns (g.W.Outlet.outflow c.args.writer.now))
      (devices_at (g.R.Inlet.inflow c.shake_within.new.reader) c.shake_within.new.turns
      (g.W.Outlet.outflow c.shake_within.new.writer)) c.in-Err.end c.in-Err.ensures.turned_away,
  refl,
)

pub returns-clause-serves : goal.returns-clause-serves
returns-clause-serves g c =
    let meets = c.in-Ok.ensures.is_open in
    let (left, said) = c.respond-ending.ensures.responds meets.behind meets.holds in (
      left,
      c.respond-ending.result.1,
      c.respond-ending.result.0,
      serve_open c.respond-ending.result.1 g.S.Server.answers c.args.ours c.args.server.now
          c.respond-ending.new.server c.in-Ok.peer
          (devices_at (g.R.Inlet.inflow c.args.reader.now) c.args.turns (g.W.Outlet.outflow c.args.writer.now))
          (devices_at (g.R.Inlet.inflow c.shake_within.new.reader) c.shake_within.new.turns
          (g.W.Outlet.outflow c.shake_within.new.writer))
          (devices_at (g.R.Inlet.inflow c.respond-ending.new.reader) left
          (g.W.Outlet.outflow c.respond-ending.new.writer)) c.respond-ending.result.0 meets said,
      c.tell.ensures,
    )
