use Rattle.std.proofs.Common.{Ok, refl}
use Rattle.arith_syntax.specs.Parts.{trees_of}
use Rattle.arith_shell.proofs.ShellLemmas.{read_fails}
use Rattle.arith_shell.proofs.shell_arithmetic.read.Goals as goal

pub returns-in-Ok-text : goal.returns-in-Ok-text
returns-in-Ok-text c = rw c.in-Ok-text.ensures (record {
  cell = Ok (trees_of c.args.code.now c.in-Ok.waiting);
  means = c.in-Ok.ensures;
  answers = refl;
})

pub returns-in-Err : goal.returns-in-Err
returns-in-Err c = rw c.from_read.ensures (read_fails _ _ c.in-Err.ensures)
