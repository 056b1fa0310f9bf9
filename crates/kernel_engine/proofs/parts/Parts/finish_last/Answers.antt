use Rattle.std.proofs.Common.{sym, ◌∙◌}
use Rattle.kernel_engine.specs.World.{world_of}
use Rattle.kernel_engine.proofs.HandleLemmas.{begun_last, last_counted, last_told, not_begun_last, same_begun}
use Rattle.kernel_engine.proofs.parts.Parts.finish_last.Goals as goal

pub close_behind-requires-clause-queue : goal.close_behind-requires-clause-queue
close_behind-requires-clause-queue g c =
    let same = same_begun (world_of g.I.Interpreter.meaning g.P.Publish.sink g.S.Stamp.stamp)
    g.met.P.Publish.laws.same_on (g.T.Stop.may_ask c.args.stop.now) c.args.asked c.args.self.now c.begin.new.self
    c.in-Ok.field-0 c.in-Ok.ensures.begun in
    c.requires.queue ∙ sym ((g.met.P.PublishAfter.stays _ _ same).0)

pub returns-in-Ok-clause-handled : goal.returns-in-Ok-clause-handled
returns-in-Ok-clause-handled g c =
    let world = world_of g.I.Interpreter.meaning g.P.Publish.sink g.S.Stamp.stamp in
    let may = g.T.Stop.may_ask c.args.stop.now in
    let same = same_begun world g.met.P.Publish.laws.same_on may c.args.asked c.args.self.now c.begin.new.self
    c.in-Ok.field-0 c.in-Ok.ensures.begun in
    last_told world g.met.P.Publish.laws.same_on g.P.PublishAfter.publisher c.args.word.list may c.args.asked.request
    c.args.self.now c.close_behind.new.self c.in-Ok.field-0.answered
    (begun_last world g.met.P.Publish.laws.same_on g.P.PublishAfter.publisher c.args.word.list may c.args.asked
    c.args.self.now c.begin.new.self c.close_behind.new.self c.in-Ok.field-0
    (λ a b same. (g.met.P.Publish.laws.same_may_refuse a b same).1)
    ((g.met.P.PublishAfter.stays _ _ same).1) c.requires.read c.in-Ok.ensures.begun c.close_behind.ensures)

pub returns-in-Ok-clause-counted : goal.returns-in-Ok-clause-counted
returns-in-Ok-clause-counted g c =
    let world = world_of g.I.Interpreter.meaning g.P.Publish.sink g.S.Stamp.stamp in
    let may = g.T.Stop.may_ask c.args.stop.now in
    let same = same_begun world g.met.P.Publish.laws.same_on may c.args.asked c.args.self.now c.begin.new.self
    c.in-Ok.field-0 c.in-Ok.ensures.begun in
    last_counted world g.met.P.Publish.laws.same_on g.P.PublishAfter.publisher c.args.word.list may
    c.args.asked.request c.args.self.now c.close_behind.new.self c.in-Ok.field-0.answered c.requires.few
    (begun_last world g.met.P.Publish.laws.same_on g.P.PublishAfter.publisher c.args.word.list may c.args.asked
    c.args.self.now c.begin.new.self c.close_behind.new.self c.in-Ok.field-0
    (λ a b same. (g.met.P.Publish.laws.same_may_refuse a b same).1)
    ((g.met.P.PublishAfter.stays _ _ same).1) c.requires.read c.in-Ok.ensures.begun c.close_behind.ensures)

pub returns-in-Err-clause-handled : goal.returns-in-Err-clause-handled
returns-in-Err-clause-handled g c =
    not_begun_last (world_of g.I.Interpreter.meaning g.P.Publish.sink g.S.Stamp.stamp) g.met.P.Publish.laws.same_on
    g.P.PublishAfter.publisher c.args.word.list (g.T.Stop.may_ask c.args.stop.now) c.args.asked.request c.args.self.now
    c.begin.new.self c.in-Err.fault c.in-Err.ensures.begun
