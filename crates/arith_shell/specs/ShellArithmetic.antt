-- What shell arithmetic (POSIX, Shell and Utilities, 2.6.4) answers as an interpreter. Its state is its variables, and
-- a cell is the trees of its statements.
use Rattle.std.specs.Prelude.{◌≡◌, ◌≢◌, ℕ, ℤ, ◌<◌, Bool, true, false, List, [], ◌∷◌, ◌++◌, ◌⊎◌, length, take, filter}
use Rattle.std.specs.Prelude.{codes, Option, Some, None, Result, Ok, Err}
use Rattle.std.specs.Fmt.{signed_decimal}
use Rattle.std.specs.Str.{chars}
use Rattle.arith_syntax.specs.declared.fault.ReadFault.{ReadFault}
use Rattle.arith_syntax.specs.declared.fault.ReadFault.TheVariants as read_fault
use Rattle.arith_syntax.specs.Grammar.{Tree}
use Rattle.arith_syntax.specs.Reading.{CellMeans, StatementMeans}
use Rattle.arith_value.specs.declared.fault.ValueFault.{ValueFault}
use Rattle.arith_value.specs.declared.fault.ValueFault.TheVariants as value_fault
use Rattle.arith_value.specs.Value.{Stops, value}
use Rattle.arith_value.specs.Variables.{Bindings, IsAscending, after, begins, find, names}
use Rattle.interp_core.specs.declared.fault.InterpFault.{InterpFault}
use Rattle.interp_core.specs.declared.fault.InterpFault.TheVariants as fault
use Rattle.interp_core.specs.declared.answer.Info.{Info}
use Rattle.interp_core.specs.declared.answer.Next.TheVariants.{More, Done, Failed}
use Rattle.interp_core.specs.declared.answer.Output.TheVariants.{Stdout}
use Rattle.interp_core.specs.declared.answer.Stepped.{Stepped}
use Rattle.interp_core.specs.declared.answer.Completion.{Completion}
use Rattle.interp_core.specs.declared.answer.Completeness.{Completeness}
use Rattle.interp_core.specs.declared.answer.Completeness.TheVariants.{Complete, Incomplete, Invalid}
use Rattle.interp_core.specs.Interpreter.{IfMemory, Meaning}
use Rattle.arith_shell.specs.Words.{run_start, word_around, word_before}

-- what shell arithmetic says of itself
abbrev pub shell_info : Info
shell_info = record {
  banner = codes "Shell arithmetic in 64 bits";
  file_extension = codes ".sha";
  mimetype = codes "text/plain";
  name = codes "sharith";
  version = codes "1.0";
}

-- a fault of a text's reading, as one of an interpreter
abbrev pub from_read : ReadFault → InterpFault
from_read (read_fault.Syntax place) = fault.Syntax place
from_read read_fault.TooDeep = fault.TooDeep
from_read read_fault.OutOfMemory = fault.OutOfMemory

-- a fault of a value, as one of an interpreter
abbrev pub from_value : ValueFault → InterpFault
from_value value_fault.Overflow = fault.Overflow
from_value value_fault.ZeroDivision = fault.ZeroDivision
from_value value_fault.Shift = fault.Shift
from_value value_fault.OutOfMemory = fault.OutOfMemory

-- a reading with its fault as one of an interpreter
abbrev pub read_answer : {T : Type 0} → Result T ReadFault → Result T InterpFault
read_answer (Ok tree) = Ok tree
read_answer (Err fault) = Err (from_read fault)

-- a value as it is printed: in decimal, with `-` for a negative one
abbrev pub printed : Result ℤ ValueFault → Result (List ℕ) InterpFault
printed (Ok n) = Ok (signed_decimal n)
printed (Err fault) = Err (from_value fault)

-- An expression's value as it is printed, or its fault, with the variables after it. If no memory was found, the
-- variables are those after a beginning of its assignments.
abbrev pub IsPrintedValue : Tree → Bindings → Result (List ℕ) InterpFault → Bindings → Type 0
IsPrintedValue tree old (Ok text) new = (Ok text ≡ printed (value tree old).result)
    × (new ≡ after old (value tree old).made)
IsPrintedValue tree old (Err fault) new =
    IfMemory fault (Stops (value tree) old new)
    ((Err fault ≡ printed (value tree old).result) × (new ≡ after old (value tree old).made))

-- what a text is read as: the trees of its statements, or its fault
pub record IsRead (text : List ℕ) (answer : Result (List Tree) InterpFault) : Type 0 where
  pub cell : Result (List Tree) ReadFault
  pub means : CellMeans (chars text) cell
  pub answers : answer ≡ read_answer cell

-- a text is read as a cell, and no variable changes
abbrev pub Begins : Bindings → List ℕ → Result (List Tree) InterpFault → Bindings → Type 0
Begins old text answer new = IsRead text answer × (new ≡ old)

-- what a statement's value shows: it is the cell's value if no statement is left, and else a line on standard output
abbrev pub shows : Result (List ℕ) InterpFault → List Tree → Stepped
shows (Ok text) [] = record { outputs = []; next = Done (Some text) }
shows (Ok text) (tree ∷ trees) = record { outputs = Stdout (text ++ codes "\n") ∷ []; next = More }
shows (Err fault) trees = record { outputs = []; next = Failed fault }

-- one step: the first statement's value, with the variables after it
abbrev pub Runs : Bindings → List Tree → Stepped → Bindings → List Tree → Type 0
Runs old [] stepped new left = ⊥
Runs old (tree ∷ trees) stepped new left =
    (stepped ≡ shows (printed (value tree old).result) trees) × (new ≡ after old (value tree old).made) × (left ≡ trees)

-- whether a statement is the last, if these come after it
abbrev pub IsLast : Bool → List Tree → Type 0
IsLast true left = left ≡ []
IsLast false left = 0 < length left

-- a step that found no memory: the variables after a beginning of the statement's assignments
abbrev pub BreaksOff : Bindings → List Tree → Bindings → Type 0
BreaksOff old [] new = ⊥
BreaksOff old (tree ∷ trees) new = Stops (value tree) old new

-- the names that begin with the word before the cursor; a cursor past the text's end counts as the end
abbrev pub completion : Bindings → List ℕ → ℕ → Completion
completion variables text cursor = record {
  matches = filter (begins (word_before text cursor)) (names variables);
  start = run_start (take cursor text);
  end = length (take cursor text);
}

-- these are what is offered, and they ascend by their octets, so that no name stands twice
pub record Completes (variables : Bindings) (text : List ℕ) (cursor : ℕ) (answer : Result Completion InterpFault) : Type
    0 where
  pub answers : answer ≡ Ok (completion variables text cursor)
  pub ascending : IsAscending (completion variables text cursor).matches

-- a variable as it is shown: its name, ` = ` and its value
abbrev pub shown_variable : List ℕ → Option ℤ → Option (List ℕ)
shown_variable name None = None
shown_variable name (Some n) = Some (name ++ (codes " = " ++ signed_decimal n))

-- the variable whose name is the word at the cursor, as it is shown, or none if it is unset
abbrev pub inspection : Bindings → List ℕ → ℕ → Option (List ℕ)
inspection variables text cursor =
    shown_variable (word_around text cursor) (find (word_around text cursor) variables)

-- Whether a text is a whole cell. It may become one by more text exactly if its fault is one of syntax at its end.
abbrev pub Judges : List ℕ → Result Completeness InterpFault → Type 0
Judges text (Ok Complete) = (trees : List Tree) × CellMeans text (Ok trees)
Judges text (Ok Incomplete) = CellMeans text (Err (read_fault.Syntax (length text)))
Judges text (Ok Invalid) = (fault : ReadFault) × CellMeans text (Err fault) × (fault ≢ read_fault.Syntax (length text))
Judges text (Err fault) = ⊥

-- a text is evaluated as one statement: its fault, and no variable changes, or its value and the variables after it
abbrev pub IsWorth : Bindings → List ℕ → Result Tree ReadFault → Result (List ℕ) InterpFault → Bindings → Type 0
IsWorth old text (Ok tree) answer new =
    (answer ≡ printed (value tree old).result) × (new ≡ after old (value tree old).made)
IsWorth old text (Err fault) answer new = (answer ≡ Err (from_read fault)) × (new ≡ old)

-- a text means a statement, or a fault, and this is what it is worth
pub record IsEvaluated (old : Bindings) (text : List ℕ) (answer : Result (List ℕ) InterpFault) (new : Bindings) : Type 0
  where
    pub statement : Result Tree ReadFault
    pub means : StatementMeans (chars text) statement
    pub evaluates : IsWorth old text statement answer new

-- an evaluation that found no memory: no variable has changed, or the variables are those after a beginning of the
-- statement's assignments
abbrev pub GivesUp : Bindings → List ℕ → Bindings → Type 0
GivesUp old text new = (new ≡ old) ⊎ ((tree : Tree) × StatementMeans (chars text) (Ok tree)
    × Stops (value tree) old new)

-- shell arithmetic as an interpreter
abbrev pub shell_meaning : Meaning Bindings (List Tree)
shell_meaning = record {
  tells = λ variables answer. answer ≡ Ok shell_info;
  begins = Begins;
  steps = λ cell. length cell;
  runs = Runs;
  breaks_off = BreaksOff;
  completes = λ variables text cursor answer. Completes variables (chars text) cursor answer;
  inspects = λ variables text cursor answer. answer ≡ Ok (inspection variables (chars text) cursor);
  judges = λ variables text answer. Judges (chars text) answer;
  evaluates = IsEvaluated;
  gives_up = GivesUp;
}
