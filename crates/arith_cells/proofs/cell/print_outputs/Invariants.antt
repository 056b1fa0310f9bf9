use Rattle.std.proofs.Common.{take}
use Rattle.std.specs.List.{flat_map}
use Rattle.std.specs.Io.KnownBytes.{Appends}
use Rattle.arith_cells.specs.Printed.{output_text}
use Rattle.arith_cells.proofs.cell.print_outputs.Given as goal

abbrev pub invariant-loop-output : goal.invariant-loop-output
invariant-loop-output g l = Appends (g.W.Write.contents l.fn.writer) (g.W.Write.contents l.writer)
    (flat_map output_text (take l.output-index l.outputs))
