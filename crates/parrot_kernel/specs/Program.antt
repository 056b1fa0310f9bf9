-- What the program of a parrot says of itself, and how its interpreters begin.
use Rattle.std.specs.Prelude.{◌≡◌, ℕ, List, [], ◌++◌, Some, codes}
use Rattle.std.proofs.Common.{refl}
use Rattle.conn_file.specs.Kernelspec.{kernel_words, started_by}
use Rattle.kernel_program.specs.Profile.{Profile}
use Rattle.serde_json.proofs.OnLiterals.{serde_json_on_literals}

-- the text of `kernel.json`
abbrev pub kernelspec : List ℕ
kernelspec =
    codes "{\"argv\":[\"parrot-kernel\",\"serve\",\"-f\",\"{connection_file}\"],"
    ++ codes "\"display_name\":\"Parrot\",\"interrupt_mode\":\"message\",\"language\":\"parrot\"}"

-- the program: an interpreter begins with nothing heard, and none is ever refused
abbrev pub parrot_profile : Profile (List ℕ)
parrot_profile = record {
  name = codes "parrot-kernel";
  kernelspec = kernelspec;
  Begins = λ heard. heard ≡ [];
  Refuses = λ words. ⊥;
}

-- the kernelspec is JSON, and has a server start this program
pub parrot_is_started : started_by kernelspec ≡ Some (kernel_words (codes "parrot-kernel"))
unfolding serde_json_on_literals
parrot_is_started = refl
