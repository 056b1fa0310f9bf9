use Rattle.std.proofs.lemmas.Result.{err_from_is_err_and}
use Rattle.zmtp_connection.specs.Exchange.{source_at}
use Rattle.zmtp_connection.proofs.ShakeLemmas.{opened, nothing_came, judged_open, judged_refused}
use Rattle.zmtp_connection.proofs.shaking.shake_within.Goals as goal

pub returns-in_err-greet-clause-turned_away : goal.returns-in_err-greet-clause-turned_away
returns-in_err-greet-clause-turned_away g c =
    let p = err_from_is_err_and c.from_residual.result c.from_residual.ensures.1 in
    rw (p.1, p.2) c.in_err-greet.ensures.turned_away

pub returns-in-Ok-clause-is_open : goal.returns-in-Ok-clause-is_open
returns-in-Ok-clause-is_open g c =
    let (opening, whole, accepted, leg, puts) = c.in_ok-greet.ensures.greeted in
    let one = source_at (g.R.Inlet.inflow c.args.reader.now) c.args.turns.now in
    let two = source_at (g.R.Inlet.inflow c.greet.new.reader) c.greet.new.turns in
    let three = source_at (g.R.Inlet.inflow c.read_first.new.reader) c.read_first.new.turns in
    let o = opened c.args.ours one two (g.W.Outlet.outflow c.args.writer.now)
    (g.W.Outlet.outflow c.greet.new.writer) opening whole leg accepted puts in
    let (some, (octets, fed, first, late)) = c.in-Ok.ensures.ok in
    judged_open c.meet.result c.args.ours one two three (g.W.Outlet.outflow c.args.writer.now)
    (g.W.Outlet.outflow c.greet.new.writer) opening octets c.in-Ok.fed c.read_first.new.decoder o first late fed
    c.meet.ensures.ok

pub returns-in-Ok-clause-turned_away : goal.returns-in-Ok-clause-turned_away
returns-in-Ok-clause-turned_away g c =
    let (opening, whole, accepted, leg, puts) = c.in_ok-greet.ensures.greeted in
    let one = source_at (g.R.Inlet.inflow c.args.reader.now) c.args.turns.now in
    let two = source_at (g.R.Inlet.inflow c.greet.new.reader) c.greet.new.turns in
    let three = source_at (g.R.Inlet.inflow c.read_first.new.reader) c.read_first.new.turns in
    let o = opened c.args.ours one two (g.W.Outlet.outflow c.args.writer.now)
    (g.W.Outlet.outflow c.greet.new.writer) opening whole leg accepted puts in
    let (some, (octets, fed, first, late)) = c.in-Ok.ensures.ok in
    judged_refused c.meet.result c.args.ours one two three (g.W.Outlet.outflow c.args.writer.now)
    (g.W.Outlet.outflow c.greet.new.writer) opening octets c.in-Ok.fed c.read_first.new.decoder o first fed
    c.meet.ensures.err

pub returns-in-Err-clause-turned_away : goal.returns-in-Err-clause-turned_away
returns-in-Err-clause-turned_away g c =
    let (opening, whole, accepted, leg, puts) = c.in_ok-greet.ensures.greeted in
    let one = source_at (g.R.Inlet.inflow c.args.reader.now) c.args.turns.now in
    let two = source_at (g.R.Inlet.inflow c.greet.new.reader) c.greet.new.turns in
    let three = source_at (g.R.Inlet.inflow c.read_first.new.reader) c.read_first.new.turns in
    let o = opened c.args.ours one two (g.W.Outlet.outflow c.args.writer.now)
    (g.W.Outlet.outflow c.greet.new.writer) opening whole leg accepted puts in
    let (octets, brings, reading) = c.in-Err.ensures.err in
    nothing_came c.args.ours one two three (g.W.Outlet.outflow c.args.writer.now)
    (g.W.Outlet.outflow c.greet.new.writer) opening octets c.in-Err.end o brings reading
