use Rattle.std.proofs.Common.{rules}
use Rattle.zmtp_connection.specs.Exchange.{source_at}
use Rattle.zmtp_connection.specs.declared.end.Ending.TheVariants.{Connection, Host}
use Rattle.zmtp_connection.proofs.IntakeLemmas.{filled_as}
use Rattle.zmtp_connection.proofs.hearing.hear.Goals as goal

pub returns-in-Connection-clause-fills : goal.returns-in-Connection-clause-fills
returns-in-Connection-clause-fills g c before holds =
    let (left, heard) = c.in-Connection.ensures.listens before holds in (
      left,
      filled_as (λ filling. filling.intake.now) g.I.Intake.takes g.I.Intake.told _ before
          (source_at (g.R.Inlet.inflow c.args.reader.now) c.args.turns)
          (source_at (g.R.Inlet.inflow c.listen.new.reader) left) c.listen.new.listener _ (search rules)
          (Connection c.in-Connection.end) heard,
    )

pub returns-in-Host-clause-fills : goal.returns-in-Host-clause-fills
returns-in-Host-clause-fills g c before holds =
    let (left, heard) = c.in-Host.ensures.listens before holds in (
      left,
      filled_as (λ filling. filling.intake.now) g.I.Intake.takes g.I.Intake.told _ before
          (source_at (g.R.Inlet.inflow c.args.reader.now) c.args.turns)
          (source_at (g.R.Inlet.inflow c.listen.new.reader) left) c.listen.new.listener _ (search rules)
          (Host c.in-Host.end) heard,
    )
