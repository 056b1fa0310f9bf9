use Rattle.std.proofs.Common.{ap, sym, Some}
use Rattle.arith_syntax.specs.declared.part.Part.TheVariants as part
use Rattle.arith_syntax.proofs.PartLemmas.{state_held}
use Rattle.arith_syntax.proofs.parser.Parser.take_due.Goals as goal

pub returns-in_ok-hold-in-Constant : goal.returns-in_ok-hold-in-Constant
returns-in_ok-hold-in-Constant c =
    rw c.in-Constant.is (ap Some (sym (state_held c.args.text.now c.args.self.now c.hold.new.self
    (part.Constant c.in-Constant.value) c.in_ok-hold-in-Constant.ensures)))

pub returns-in_ok-hold-in-Name : goal.returns-in_ok-hold-in-Name
returns-in_ok-hold-in-Name c =
    rw (c.in-Name.is, c.requires.named c.in-Name.field-0 c.in-Name.is)
    (ap Some (sym (state_held c.args.text.now c.args.self.now c.hold-in-Name.new.self
    (part.Variable c.args.placed.now.place) c.in_ok-hold-in-Name.ensures)))
