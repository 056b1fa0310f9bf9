-- What the program of SQL says of itself, and how its interpreters begin.
use Rattle.std.specs.Prelude.{◌≡◌, ◌⊎◌, ℕ, List, ◌++◌, Option, None, Some, IsTrue, codes}
use Rattle.std.proofs.Common.{refl}
use Rattle.conn_file.specs.Kernelspec.{kernel_words, started_by}
use Rattle.kernel_program.specs.Profile.{Profile}
use Rattle.serde_json.proofs.OnLiterals.{serde_json_on_literals}
use Rattle.sql_cells.specs.Faults.{error_words}
use Rattle.sql_cells.specs.Meaning.{limited}
use Rattle.sql_cells.specs.declared.file.FileSql.{FileSql}
use Rattle.sqlite_trees.specs.declared.memory.MemStore.{MemStore}
use Rattle.sqlite.specs.Files.{IsOpened, file_state}
use Rattle.sqlite.specs.Held.{Held, state}
use Rattle.sqlite.specs.Opening.{is_open_error}
use Rattle.sqlite.specs.State.{HasCleanDisk}
use Rattle.sqlite.specs.Steps.{IsEmpty, over_memory}
use Rattle.sqlite.specs.declared.error.Error.{Error}

-- the program's name
abbrev pub program_name : List ℕ
program_name = codes "jkernel-sql"

-- the text of `kernel.json`
abbrev pub kernelspec : List ℕ
kernelspec =
    codes "{\"argv\":[\"jkernel-sql\",\"serve\",\"-f\",\"{connection_file}\"],"
    ++ codes "\"display_name\":\"SQL\",\"interrupt_mode\":\"message\",\"language\":\"sql\"}"

-- the interpreter is over an empty database in memory, with the usual limit on steps
abbrev pub BeginsInMemory : Option (Held MemStore) → Type 0
BeginsInMemory sql = (held : Held MemStore) × (sql ≡ Some (limited held)) × IsEmpty (state over_memory held)

-- the program of SQL over a database in memory; an interpreter is never refused
abbrev pub in_memory : Profile (Option (Held MemStore))
in_memory = record {
  name = program_name;
  kernelspec = kernelspec;
  Begins = BeginsInMemory;
  Refuses = λ said. ⊥;
}

-- The interpreter is over the database of a file that was opened, with the usual limit on steps. Or it is over none.
abbrev pub BeginsInFile : FileSql → Type 0
BeginsInFile file =
    (file.sql ≡ None)
    ⊎ ((held : _) × (file.sql ≡ Some (limited held)) × (HasCleanDisk (file_state held) → IsOpened held))

-- the words of a refusal
abbrev pub refusal : Error → List ℕ
refusal error = codes "the database: " ++ error_words error

-- a text is one of those that tell why a file isn't opened
pub record RefusesFile (said : List ℕ) : Type 0 where
  pub error : Error
  pub is_of_opening : IsTrue (is_open_error error)
  pub says : said ≡ refusal error

-- the program of SQL over the database in a file
abbrev pub in_file : Profile FileSql
in_file = record {
  name = program_name;
  kernelspec = kernelspec;
  Begins = BeginsInFile;
  Refuses = RefusesFile;
}

-- the kernelspec is JSON, and has a server start this program, to serve a connection file
pub sql_is_started : started_by kernelspec ≡ Some (kernel_words program_name)
unfolding serde_json_on_literals
sql_is_started = refl
