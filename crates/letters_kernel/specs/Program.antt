-- What the program of letters says of itself, and how its interpreters begin.
use Rattle.std.specs.Prelude.{◌≡◌, ℕ, List, ◌++◌, Some, codes, false}
use Rattle.std.proofs.Common.{refl}
use Rattle.conn_file.specs.Kernelspec.{kernel_words, started_by}
use Rattle.test_examples.specs.declared.letters.Letters.{Letters}
use Rattle.kernel_program.specs.Profile.{Profile}
use Rattle.serde_json.proofs.OnLiterals.{serde_json_on_literals}

-- the program's name
abbrev pub program_name : List ℕ
program_name = codes "letters_kernel"

-- the text of `kernel.json`
abbrev pub kernelspec : List ℕ
kernelspec =
    codes "{\"argv\":[\"letters_kernel\",\"serve\",\"-f\",\"{connection_file}\"],"
    ++ codes "\"display_name\":\"Letters\",\"interrupt_mode\":\"message\",\"language\":\"letters\"}"

-- the program of letters: memory is found for its interpreters, and none is ever refused
abbrev pub letters : Profile Letters
letters = record {
  name = program_name;
  kernelspec = kernelspec;
  Begins = λ interp. interp.is_wanting ≡ false;
  Refuses = λ said. ⊥;
}

-- the kernelspec is JSON, and has a server start this program, to serve a connection file
pub letters_are_started : started_by kernelspec ≡ Some (kernel_words program_name)
unfolding serde_json_on_literals
letters_are_started = refl
