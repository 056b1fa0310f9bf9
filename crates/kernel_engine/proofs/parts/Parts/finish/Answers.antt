use Rattle.kernel_engine.specs.World.{world_of}
use Rattle.kernel_engine.proofs.HandleLemmas.{begun_read, begun_told, counted_by, handled_told, not_begun}
use Rattle.kernel_engine.proofs.parts.Parts.finish.Goals as goal

pub returns-in-Ok-clause-handled : goal.returns-in-Ok-clause-handled
returns-in-Ok-clause-handled g c =
    let world = world_of g.I.Interpreter.meaning g.P.Publish.sink g.S.Stamp.stamp in
    let may = g.T.Stop.may_ask c.args.stop.now in
    handled_told world g.met.P.Publish.laws.same_on may c.args.asked.request c.args.self.now c.close_block.new.self
    c.in-Ok.field-0.answered
    (begun_told world g.met.P.Publish.laws.same_on may c.args.asked c.args.self.now c.begin.new.self
    c.close_block.new.self c.in-Ok.field-0 (λ a b same. (g.met.P.Publish.laws.same_may_refuse a b same).1)
    c.requires.read c.in-Ok.ensures.begun c.close_block.ensures)

pub returns-in-Ok-clause-counted : goal.returns-in-Ok-clause-counted
returns-in-Ok-clause-counted g c =
    let world = world_of g.I.Interpreter.meaning g.P.Publish.sink g.S.Stamp.stamp in
    let may = g.T.Stop.may_ask c.args.stop.now in
    counted_by world g.met.P.Publish.laws.same_on may c.args.asked.request c.args.self.now c.close_block.new.self
    c.in-Ok.field-0.answered c.requires.few
    (begun_told world g.met.P.Publish.laws.same_on may c.args.asked c.args.self.now c.begin.new.self
    c.close_block.new.self c.in-Ok.field-0 (λ a b same. (g.met.P.Publish.laws.same_may_refuse a b same).1)
    c.requires.read c.in-Ok.ensures.begun c.close_block.ensures)

pub returns-in-Ok-clause-read : goal.returns-in-Ok-clause-read
returns-in-Ok-clause-read g c =
    begun_read (world_of g.I.Interpreter.meaning g.P.Publish.sink g.S.Stamp.stamp) g.met.P.Publish.laws.same_on
    (g.T.Stop.may_ask c.args.stop.now) c.args.asked c.args.self.now c.begin.new.self c.in-Ok.field-0 c.requires.read
    c.in-Ok.ensures.begun

pub returns-in-Err-clause-handled : goal.returns-in-Err-clause-handled
returns-in-Err-clause-handled g c =
    not_begun (world_of g.I.Interpreter.meaning g.P.Publish.sink g.S.Stamp.stamp) g.met.P.Publish.laws.same_on
    (g.T.Stop.may_ask c.args.stop.now) c.args.asked.request c.args.self.now c.begin.new.self c.in-Err.fault
    c.in-Err.ensures.begun
