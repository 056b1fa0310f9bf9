use Rattle.kernel_program.proofs.status.tell_port.Goals as goal

pub returns : goal.returns
returns g c = rw (c.name.ensures, c.words.ensures) at c.tell_two.ensures
