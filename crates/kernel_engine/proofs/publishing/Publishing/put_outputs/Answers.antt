use Rattle.std.proofs.Common.{◌∷◌, map, sym, ap, ◌∙◌}
use Rattle.std.proofs.lemmas.Result.{err_from_is_err_and}
use Rattle.jmsg_types.specs.declared.publication.Publication.{Publication}
use Rattle.kernel_engine.specs.Growth.{PutsUnder}
use Rattle.kernel_engine.specs.Publications.{publication_of}
use Rattle.kernel_engine.proofs.GrowthLemmas.{puts_none, puts_told}
use Rattle.kernel_engine.proofs.PuttingLemmas.{putting_first, putting_on, putting_cut}
use Rattle.kernel_engine.proofs.publishing.Publishing.put_outputs.Goals as goal

pub loop-output-init : goal.loop-output-init
loop-output-init g c =
    putting_first
    (PutsUnder g.P.Publish.sink g.S.Stamp.stamp c.args.block.now.heading
    c.args.self.now c.args.self.now)
    c.args.block.now.silent (map publication_of c.args.outputs) (map publication_of c.from_vec-waiting.result.items)
    (ap (map publication_of) (c.from_vec-waiting.ensures.items ∙ c.into_vec.ensures))
    (puts_none g.P.Publish.sink g.S.Stamp.stamp c.args.block.now.heading
    g.met.P.Publish.laws.same_itself c.args.self.now)

pub loop-output-preserved : goal.loop-output-preserved
loop-output-preserved g c =
    let puts = PutsUnder g.P.Publish.sink g.S.Stamp.stamp c.args.block.now.heading in
    putting_on (puts c.args.self.now c.loop-output.self) (puts c.loop-output.self c.put.new.self)
    (puts c.args.self.now c.put.new.self) c.args.block.now.silent
    (puts_told g.P.Publish.sink g.S.Stamp.stamp c.args.block.now.heading
    g.met.P.Publish.laws.same_on c.args.block.now.silent c.args.self.now c.loop-output.self c.put.new.self)
    (map publication_of c.args.outputs) (map publication_of c.loop-output.waiting.items)
    (map publication_of c.pop_front.new.self.items) c.publication_of.result
    (ap (map publication_of) c.in-Some.ensures.items
    ∙ ap (λ (p : Publication). p ∷ map publication_of c.pop_front.new.self.items) (sym c.publication_of.ensures))
    c.loop-output.invariant c.in_ok-put.ensures

pub returns-in_err-put : goal.returns-in_err-put
returns-in_err-put g c =
    let p = err_from_is_err_and c.from_residual.result c.from_residual.ensures.1 in
    let puts = PutsUnder g.P.Publish.sink g.S.Stamp.stamp c.args.block.now.heading in
    rw (p.1) (putting_cut (puts c.args.self.now c.loop-output.self) (puts c.loop-output.self c.put.new.self)
    (puts c.args.self.now c.put.new.self) c.args.block.now.silent
    (puts_told g.P.Publish.sink g.S.Stamp.stamp c.args.block.now.heading
    g.met.P.Publish.laws.same_on c.args.block.now.silent c.args.self.now c.loop-output.self c.put.new.self)
    (map publication_of c.args.outputs) (map publication_of c.loop-output.waiting.items) c.loop-output.invariant
    c.in_err-put.ensures)
