-- What the program of shell arithmetic says of itself, and how its interpreters begin.
use Rattle.std.specs.Prelude.{◌≡◌, ℕ, List, [], ◌++◌, Some, codes}
use Rattle.std.proofs.Common.{refl}
use Rattle.arith_value.specs.Variables.{Bindings}
use Rattle.conn_file.specs.Kernelspec.{kernel_words, started_by}
use Rattle.kernel_program.specs.Profile.{Profile}
use Rattle.serde_json.proofs.OnLiterals.{serde_json_on_literals}

-- the program's name
abbrev pub program_name : List ℕ
program_name = codes "jkernel"

-- the text of `kernel.json`
abbrev pub kernelspec : List ℕ
kernelspec =
    codes "{\"argv\":[\"jkernel\",\"serve\",\"-f\",\"{connection_file}\"],"
    ++ codes "\"display_name\":\"Shell arithmetic\",\"interrupt_mode\":\"message\",\"language\":\"sharith\"}"

-- the program of shell arithmetic: its interpreters begin with no variable assigned, and none is ever refused
abbrev pub arithmetic : Profile Bindings
arithmetic = record {
  name = program_name;
  kernelspec = kernelspec;
  Begins = λ variables. variables ≡ [];
  Refuses = λ said. ⊥;
}

-- the kernelspec is JSON, and has a server start this program, to serve a connection file
pub arithmetic_is_started : started_by kernelspec ≡ Some (kernel_words program_name)
unfolding serde_json_on_literals
arithmetic_is_started = refl
