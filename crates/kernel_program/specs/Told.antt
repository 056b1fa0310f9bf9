-- What the program tells a person of how it ended.
use Rattle.std.specs.Prelude.{ℕ, List, [], ◌∷◌, ◌++◌, Option, Some, None, codes, decimal}
use Rattle.kernel_serve.specs.declared.fault.Port.{Port}
use Rattle.kernel_serve.specs.Serving.{port_name}
use Rattle.kernel_program.specs.declared.reason.Reason.{Reason}
use Rattle.kernel_program.specs.declared.reason.Reason.TheVariants.{NoSuchFile, IsDirectory, NoPermission}
use Rattle.kernel_program.specs.declared.reason.Reason.TheVariants.{NotUtf8, InUse, NoSuchAddress, NoSpace, TooLarge}
use Rattle.kernel_program.specs.declared.reason.Reason.TheVariants.{Another}
use Rattle.kernel_program.specs.declared.status.Status.{Status}
use Rattle.kernel_program.specs.declared.status.Status.TheVariants.{Done, Ended, Failed, OutputFailed, WordsRefused}
use Rattle.kernel_program.specs.declared.status.Status.TheVariants.{WordsUnreadable, FileUnreadable, FileRefused}
use Rattle.kernel_program.specs.declared.status.Status.TheVariants.{CannotBind, Incomplete, InputRefused, BeginRefused}

-- a line of the program of this name, in two parts
abbrev pub line : List ℕ → List ℕ → List ℕ → List ℕ
line name words more = name ++ (codes ": " ++ (words ++ (more ++ 10 ∷ [])))

-- why the system refuses something, in words
abbrev pub reason_words : Reason → List ℕ
reason_words NoSuchFile = codes "No such file or directory"
reason_words IsDirectory = codes "Is a directory"
reason_words NoPermission = codes "Permission denied"
reason_words NotUtf8 = codes "it is not UTF-8"
reason_words InUse = codes "Address already in use"
reason_words NoSuchAddress = codes "Cannot assign requested address"
reason_words NoSpace = codes "No space left on device"
reason_words TooLarge = codes "File too large"
reason_words Another = codes "the system tells no plainer reason"

-- what is told if standard output failed, unless nobody reads what is written
abbrev pub output_lines : List ℕ → Option Reason → List ℕ
output_lines name None = []
output_lines name (Some why) = line name (codes "failed") [] ++ line name (codes "standard output: ") (reason_words why)

-- what is told of a connection file that can't be read
abbrev pub unreadable_lines : List ℕ → Reason → List ℕ
unreadable_lines name why = line name (codes "connection file unreadable") [] ++ line name (reason_words why) []

-- what is told of a port that can't be bound
abbrev pub port_lines : List ℕ → Port → Reason → List ℕ
port_lines name port why = line name (codes "cannot bind ") (port_name port) ++ line name (reason_words why) []

-- what is told of an input that has no digit at this place, counted from 0 on, or lacks one at its end
abbrev pub input_lines : List ℕ → Option ℕ → List ℕ
input_lines name None =
    line name (codes "replay input refused") [] ++ line name (codes "a hexadecimal digit is missing at the end") []
input_lines name (Some place) =
    line name (codes "replay input refused") [] ++ line name (codes "no hexadecimal digit at offset ") (decimal place)

-- What a program of this name tells a person of its status. If a connection file is refused, no definition says the
-- words.
abbrev pub told_of_status : List ℕ → Status → Option (List ℕ)
told_of_status name Done = Some []
told_of_status name (Ended served) = Some []
told_of_status name Failed = Some (line name (codes "failed") [])
told_of_status name (OutputFailed why) = Some (output_lines name why)
told_of_status name (WordsRefused said) = Some said
told_of_status name WordsUnreadable = Some (codes "error: the command words are not UTF-8\n")
told_of_status name (FileUnreadable why) = Some (unreadable_lines name why)
told_of_status name (FileRefused fault) = None
told_of_status name (CannotBind port why) = Some (port_lines name port why)
told_of_status name Incomplete = Some (line name (codes "ended without complete") [])
told_of_status name (InputRefused place) = Some (input_lines name place)
told_of_status name (BeginRefused said) = Some (line name said [])
