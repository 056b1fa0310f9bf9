use Rattle.std.proofs.Common.{◌∙◌}
use Rattle.std.proofs.lemmas.Result.{err_from_is_err_and}
use Rattle.zmtp_wire.specs.Greeting.{greeting_octets}
use Rattle.zmtp_wire.specs.Device.{Puts}
use Rattle.zmtp_connection.specs.Exchange.{source_at}
use Rattle.zmtp_connection.proofs.ShakeLemmas.{greeting_unsent, greeting_refused, ready_refused, ready_sent}
use Rattle.zmtp_connection.proofs.ShakeLemmas.{ready_unsent}
use Rattle.zmtp_connection.proofs.shaking.greet.Goals as goal

pub returns-in_err-put-clause-turned_away : goal.returns-in_err-put-clause-turned_away
returns-in_err-put-clause-turned_away g c =
    let p = err_from_is_err_and c.from_residual.result c.from_residual.ensures.1 in
    rw (p.1, p.2) (greeting_unsent c.args.ours (source_at (g.R.Inlet.inflow c.args.reader.now) c.args.turns.now)
    (g.W.Outlet.outflow c.args.writer.now) (g.W.Outlet.outflow c.put.new.writer) c.greeting.result
    c.in_err-put.field-0.0 c.greeting.ensures c.in_err-put.ensures)

pub returns-in-Err-clause-turned_away : goal.returns-in-Err-clause-turned_away
returns-in-Err-clause-turned_away g c =
    let sent : Puts (g.W.Outlet.outflow c.args.writer.now) (g.W.Outlet.outflow c.put.new.writer) greeting_octets 0 =
    rw c.greeting.ensures at c.in_ok-put.ensures in
    greeting_refused c.args.ours (source_at (g.R.Inlet.inflow c.args.reader.now) c.args.turns.now)
    (source_at (g.R.Inlet.inflow c.read_opening.new.reader) c.read_opening.new.turns)
    (g.W.Outlet.outflow c.args.writer.now) (g.W.Outlet.outflow c.put.new.writer) c.in_ok-opening.opening
    c.in-Err.fault sent c.in_ok-opening.ensures.ok.0 c.in_ok-opening.ensures.ok.1 c.in-Err.ensures.refused

pub returns-in_default-ready_text-clause-turned_away : goal.returns-in_default-ready_text-clause-turned_away
returns-in_default-ready_text-clause-turned_away g c =
    let sent : Puts (g.W.Outlet.outflow c.args.writer.now) (g.W.Outlet.outflow c.put.new.writer) greeting_octets 0 =
    rw c.greeting.ensures at c.in_ok-put.ensures in
    ready_refused c.args.ours (source_at (g.R.Inlet.inflow c.args.reader.now) c.args.turns.now)
    (source_at (g.R.Inlet.inflow c.read_opening.new.reader) c.read_opening.new.turns)
    (g.W.Outlet.outflow c.args.writer.now) (g.W.Outlet.outflow c.put.new.writer) c.in_ok-opening.opening sent
    c.in_ok-opening.ensures.ok.1

pub returns-clause-greeted : goal.returns-clause-greeted
returns-clause-greeted g c =
    let sent : Puts (g.W.Outlet.outflow c.args.writer.now) (g.W.Outlet.outflow c.put.new.writer) greeting_octets 0 =
    rw c.greeting.ensures at c.in_ok-put.ensures in
    ready_sent c.put-written.result c.args.ours (source_at (g.R.Inlet.inflow c.args.reader.now) c.args.turns.now)
    (source_at (g.R.Inlet.inflow c.read_opening.new.reader) c.read_opening.new.turns)
    (g.W.Outlet.outflow c.args.writer.now) (g.W.Outlet.outflow c.put.new.writer)
    (g.W.Outlet.outflow c.put-written.new.writer) c.in_ok-opening.opening c.deref.result.now
    (c.deref.ensures.value ∙ c.in-Ok.ensures.text) sent c.in_ok-opening.ensures.ok.0 c.in_ok-opening.ensures.ok.1
    c.in_default.ensures.accepted.0 c.put-written.ensures

pub returns-clause-turned_away : goal.returns-clause-turned_away
returns-clause-turned_away g c =
    let sent : Puts (g.W.Outlet.outflow c.args.writer.now) (g.W.Outlet.outflow c.put.new.writer) greeting_octets 0 =
    rw c.greeting.ensures at c.in_ok-put.ensures in
    ready_unsent c.put-written.result c.args.ours (source_at (g.R.Inlet.inflow c.args.reader.now) c.args.turns.now)
    (source_at (g.R.Inlet.inflow c.read_opening.new.reader) c.read_opening.new.turns)
    (g.W.Outlet.outflow c.args.writer.now) (g.W.Outlet.outflow c.put.new.writer)
    (g.W.Outlet.outflow c.put-written.new.writer) c.in_ok-opening.opening c.deref.result.now
    (c.deref.ensures.value ∙ c.in-Ok.ensures.text) sent c.in_ok-opening.ensures.ok.0 c.in_ok-opening.ensures.ok.1
    c.in_default.ensures.accepted.0 c.put-written.ensures
