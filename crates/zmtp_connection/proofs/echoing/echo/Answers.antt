use Rattle.zmtp_connection.specs.Exchange.{devices_at}
use Rattle.zmtp_connection.specs.declared.end.Ending.TheVariants.{Connection, Host}
use Rattle.zmtp_connection.proofs.EchoLemmas.{echo_served}
use Rattle.zmtp_connection.proofs.echoing.echo.Goals as goal

pub returns-in-Connection : goal.returns-in-Connection
returns-in-Connection g c =
    let (left, dropped, ending, served, is) = c.in-Connection.ensures.serves in (
      left,
      echo_served dropped _ c.serve.new.server
          (devices_at (g.R.Inlet.inflow c.args.reader.now) c.args.turns (g.W.Outlet.outflow c.args.writer.now))
          (devices_at (g.R.Inlet.inflow c.serve.new.reader) left (g.W.Outlet.outflow c.serve.new.writer)) ending
          (Connection c.in-Connection.end) served is,
    )

pub returns-in-Host : goal.returns-in-Host
returns-in-Host g c =
    let (left, dropped, ending, served, is) = c.in-Host.ensures.serves in (
      left,
      echo_served dropped _ c.serve.new.server
          (devices_at (g.R.Inlet.inflow c.args.reader.now) c.args.turns (g.W.Outlet.outflow c.args.writer.now))
          (devices_at (g.R.Inlet.inflow c.serve.new.reader) left (g.W.Outlet.outflow c.serve.new.writer)) ending
          (Host _) served is,
    )
