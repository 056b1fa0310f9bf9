-- What is known of a program of a language.
use Rattle.std.specs.Prelude.{◌≡◌, ℕ, List, Some, ⊤}
use Rattle.conn_file.specs.Kernelspec.{kernel_words, started_by}
use Rattle.kernel_program.specs.declared.language.BeginFault.{BeginFault}
use Rattle.kernel_program.specs.declared.language.BeginFault.TheVariants.{Refused, OutOfMemory}

-- What a program of a language says of itself, and how its interpreters begin. A state is an interpreter, and a text is
-- its octets.
pub record Profile (State : Type 0) : Type 1 where
  -- the program's name
  pub name : List ℕ
  -- the text of `kernel.json`
  pub kernelspec : List ℕ
  -- the states that an interpreter of shell may begin in
  pub Begins : State → Type 0
  -- the words with which a language may refuse an interpreter
  pub Refuses : List ℕ → Type 0

-- why there is no interpreter: the language refuses one with these words, or memory was wanting
abbrev pub IsRefusal : {State : Type 0} → Profile State → BeginFault → Type 0
IsRefusal profile (Refused words) = profile.Refuses words
IsRefusal profile OutOfMemory = ⊤

-- A kernelspec is JSON. By it a server starts the program by its name, to serve a connection file.
abbrev pub IsStarted : {State : Type 0} → Profile State → Type 0
IsStarted profile = started_by profile.kernelspec ≡ Some (kernel_words profile.name)
