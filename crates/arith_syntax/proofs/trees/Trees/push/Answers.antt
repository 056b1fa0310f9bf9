use Rattle.std.proofs.Common.{refl}
use Rattle.arith_syntax.specs.Packed.{size_of}
use Rattle.arith_syntax.proofs.PackedLemmas.{tree_put}
use Rattle.arith_syntax.proofs.trees.Trees.push.Goals as goal

pub invariant_of-self : goal.invariant_of-self
invariant_of-self c =
    rw (c.in-Ok.ensures.marks, c.in-Ok.ensures.narrow, c.in-Ok.ensures.wide)
    (tree_put c.args.parts.now c.self.inside.sizes.items c.put.new.sizes.items c.self.inside.marks
    c.lend-kept.result.marks.now c.self.inside.narrow c.lend-kept.result.narrow.now c.self.inside.wide
    c.lend-kept.result.wide.now (size_of c.lend-kept.result) c.self.invariant c.lend-kept.ensures.kept
    c.in-Ok.ensures.sizes refl).1

pub returns-in-Ok : goal.returns-in-Ok
returns-in-Ok c =
    rw (← c.self.view_is, c.in-Ok.ensures.marks, c.in-Ok.ensures.narrow, c.in-Ok.ensures.wide)
    (tree_put c.args.parts.now c.self.inside.sizes.items c.put.new.sizes.items c.self.inside.marks
    c.lend-kept.result.marks.now c.self.inside.narrow c.lend-kept.result.narrow.now c.self.inside.wide
    c.lend-kept.result.wide.now (size_of c.lend-kept.result) c.self.invariant c.lend-kept.ensures.kept
    c.in-Ok.ensures.sizes refl).0
