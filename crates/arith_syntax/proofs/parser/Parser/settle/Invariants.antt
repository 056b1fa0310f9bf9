use Rattle.std.proofs.Common.{◌≡◌, length}
use Rattle.arith_syntax.specs.Machine.{around, settle, turned}
use Rattle.arith_syntax.specs.Parts.{tree_of}
use Rattle.arith_syntax.proofs.parser.Parser.settle.Given as goal

abbrev pub invariant-loop-frame : goal.invariant-loop-frame
invariant-loop-frame l =
    settle l.weakest (around l.text l.self) (tree_of l.text l.self.parts)
    ≡ settle l.weakest (around l.text l.fn.self) (tree_of l.text l.fn.self.parts)

abbrev pub decreases-loop-frame : goal.decreases-loop-frame
decreases-loop-frame l = length (turned l.self.frames.items)
