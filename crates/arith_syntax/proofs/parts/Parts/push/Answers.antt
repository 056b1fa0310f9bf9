use Rattle.arith_syntax.proofs.PackedLemmas.{part_put}
use Rattle.arith_syntax.proofs.parts.Parts.push.Goals as goal

pub invariant_of-self : goal.invariant_of-self
invariant_of-self c =
    (part_put c.self.inside.marks.items c.put.new.marks.items c.self.inside.narrow.items c.put.new.narrow.items
    c.self.inside.wide.items c.put.new.wide.items c.args.part c.self.invariant c.in-Ok.ensures.marks
    c.in-Ok.ensures.narrow c.in-Ok.ensures.wide).1

pub returns-in-Ok : goal.returns-in-Ok
returns-in-Ok c =
    rw (← c.self.view_is)
    (part_put c.self.inside.marks.items c.put.new.marks.items c.self.inside.narrow.items c.put.new.narrow.items
    c.self.inside.wide.items c.put.new.wide.items c.args.part c.self.invariant c.in-Ok.ensures.marks
    c.in-Ok.ensures.narrow c.in-Ok.ensures.wide).0
