-- SQL as an interpreter.
use Rattle.std.specs.Prelude.{◌≡◌, ◌⊎◌, ◌==◌, ⊤, ℕ, Bool, true, false, IsUtf8, MatchBool, List, [], ◌∷◌, ◌++◌, length}
use Rattle.std.specs.Prelude.{codes, Option, Some, None, Result, Ok, Err}
use Rattle.interp_core.specs.Interpreter.{HasOwn, Meaning}
use Rattle.interp_core.specs.declared.answer.Completeness.{Completeness}
use Rattle.interp_core.specs.declared.answer.Completion.{Completion}
use Rattle.interp_core.specs.declared.answer.Info.{Info}
use Rattle.interp_core.specs.declared.answer.Next.{Next}
use Rattle.interp_core.specs.declared.answer.Next.TheVariants.{More, Done, Failed}
use Rattle.interp_core.specs.declared.answer.Output.{Output}
use Rattle.interp_core.specs.declared.answer.Output.TheVariants.{Stdout}
use Rattle.interp_core.specs.declared.answer.Stepped.{Stepped}
use Rattle.interp_core.specs.declared.fault.InterpFault.{InterpFault}
use Rattle.interp_core.specs.declared.fault.InterpFault.TheVariants as faults
use Rattle.sqlite_trees.specs.declared.store.Store.{Ghosts}
use Rattle.sqlite.specs.declared.error.Error.{Error}
use Rattle.sqlite.specs.Held.{Held, state}
use Rattle.sqlite.specs.State.{HasCleanDisk}
use Rattle.sql_cells.specs.declared.dots.Dot.{Dot}
use Rattle.sql_cells.specs.declared.dots.Dot.TheVariants.{Help, Tables, Schema, Limit, Unknown}
use Rattle.sql_cells.specs.declared.statement.Came.{Came}
use Rattle.sql_cells.specs.Dots.{bad_limit, dot_of, first_word, help_text, listed, names_query, number}
use Rattle.sql_cells.specs.Dots.{schema_query, second_word, unknown_dot}
use Rattle.sql_cells.specs.Faults.{told}
use Rattle.sql_cells.specs.Inspections.{inspection}
use Rattle.sql_cells.specs.Offers.{completion}
use Rattle.sql_cells.specs.Parts.{IsCut, IsJudged, is_dotted, past_gaps}
use Rattle.sql_cells.specs.Shown.{shown, worth}
use Rattle.sql_cells.specs.Statement.{Runs, Spares}

-- how a cell goes on after a statement, which may be the last
abbrev pub next_of : Bool → Next
next_of true = Done None
next_of false = More

-- a step by what its statement came to, which may be the last
abbrev pub stepped_of : Result (List Output) InterpFault → Bool → Stepped
stepped_of (Ok outputs) last = record { outputs = outputs; next = next_of last }
stepped_of (Err fault) last = record { outputs = []; next = Failed fault }

-- the step that found no memory, as it is told
abbrev pub broken : Stepped
broken = record { outputs = []; next = Failed faults.OutOfMemory }

-- the fault of a statement that is no text
abbrev pub no_text : InterpFault
no_text = faults.Raised (codes "SyntaxError") (codes "the statement is no UTF-8")

-- the fault of a statement of an interpreter that holds no database, since another program has it open
abbrev pub unconnected : InterpFault
unconnected = faults.Raised (codes "OperationalError")
    (codes "database is locked: restart this kernel once no other program has it open")

-- the query of an expression
abbrev pub expression_query : List ℕ → List ℕ
expression_query text = codes "SELECT (" ++ text ++ codes "\n)"

-- what the language says of itself
abbrev pub sql_info : Info
sql_info = record {
  banner = codes "SQL over sqlite; .help tells the dot words";
  file_extension = codes ".sql";
  mimetype = codes "text/x-sql";
  name = codes "sql";
  version = codes "1.0";
}

-- how many steps a query may take that nobody gave another limit
abbrev pub usual_limit : ℕ
usual_limit = 6000000

-- a connection whose queries have the usual limit on steps
abbrev pub limited : {S : Type 0} → Held S → Held S
limited held = record held { step_limit = Some usual_limit }

module _ {S : Type 0} (g : Ghosts S) where
  -- What a statement comes to, and what is told of it. Of a disk that didn't return what was written it says no more
  -- than that the limit on steps and the faults are kept.
  abbrev pub Comes : {T : Type 0} → (Came → T) → List ℕ → Held S → Held S → Result T InterpFault → Type 0
  Comes show sql old new outcome =
      HasOwn outcome
      × (HasCleanDisk (state g new) → (came : Result Came Error) × Runs g sql old new came
      × (outcome ≡ told show sql came))
      × Spares g sql old new

  -- what a statement may leave that found no memory: it ran all the same, or failed
  abbrev pub MayRun : List ℕ → Held S → Held S → Type 0
  MayRun sql old new =
      (HasCleanDisk (state g new) → (came : Result Came Error) × Runs g sql old new came) × Spares g sql old new

  -- what a text may leave that found no memory, before it ran or as it ran
  abbrev pub MayRunText : List ℕ → Held S → Held S → Type 0
  MayRunText sql old new = (new ≡ old) ⊎ MayRun sql old new

  -- what a line comes to that sets the limit on steps: the limit is set, or its word is no number and nothing changes
  abbrev pub Limits : Option ℕ → Held S → Held S → Result (List Output) InterpFault → Type 0
  Limits None old new outcome = (new ≡ old) × (outcome ≡ Err bad_limit)
  Limits (Some steps) old new outcome = (new ≡ record old { step_limit = Some steps }) × (outcome ≡ Ok [])

  -- what a line that begins with a dot comes to, by what it asks for and the word after that
  abbrev pub DotComes : Dot → List ℕ → Held S → Held S → Result (List Output) InterpFault → Type 0
  DotComes Help word old new outcome = (new ≡ old) × (outcome ≡ Ok (Stdout help_text ∷ []))
  DotComes Tables word old new outcome = Comes listed names_query old new outcome
  DotComes Schema word old new outcome = Comes listed (schema_query word) old new outcome
  DotComes Limit word old new outcome = Limits (number word) old new outcome
  DotComes Unknown word old new outcome = (new ≡ old) × (outcome ≡ Err unknown_dot)

  -- what a line that begins with a dot may leave if it found no memory
  abbrev pub DotMayRun : Dot → List ℕ → Held S → Held S → Type 0
  DotMayRun Tables word old new = MayRunText names_query old new
  DotMayRun Schema word old new = MayRunText (schema_query word) old new
  DotMayRun _ word old new = new ≡ old

  -- what a line that begins with a dot comes to, by its text
  abbrev pub LineComes : List ℕ → Held S → Held S → Result (List Output) InterpFault → Type 0
  LineComes line = DotComes (dot_of (first_word line)) (second_word line)

  -- what a line that begins with a dot may leave if it found no memory, by its text
  abbrev pub LineMayRun : List ℕ → Held S → Held S → Type 0
  LineMayRun line = DotMayRun (dot_of (first_word line)) (second_word line)

  -- what a part of a cell comes to
  abbrev pub TextComes : List ℕ → Held S → Held S → Result (List Output) InterpFault → Type 0
  TextComes text old new outcome =
      MatchBool (is_dotted text) (LineComes (past_gaps text) old new outcome) (Comes shown text old new outcome)

  -- what a part of a cell may leave that found no memory
  abbrev pub TextMayRun : List ℕ → Held S → Held S → Type 0
  TextMayRun text old new = MatchBool (is_dotted text) (LineMayRun (past_gaps text) old new) (MayRun text old new)

  -- what octets come to as a part of a cell
  abbrev pub PieceComes : List ℕ → Held S → Held S → Result (List Output) InterpFault → Type 0
  PieceComes piece old new outcome =
      (IsUtf8 piece × TextComes piece old new outcome)
      ⊎ ((¬ IsUtf8 piece) × (new ≡ old) × (outcome ≡ Err no_text))

  -- what octets may leave as a part of a cell if they found no memory
  abbrev pub PieceMayRun : List ℕ → Held S → Held S → Type 0
  PieceMayRun piece old new = (new ≡ old) ⊎ TextMayRun piece old new

  -- what octets come to as a part of a cell, in an interpreter that may hold no database
  abbrev pub StepComes : List ℕ → Option (Held S) → Option (Held S) → Result (List Output) InterpFault → Type 0
  StepComes piece (Some old) (Some new) outcome = PieceComes piece old new outcome
  StepComes piece None None outcome = outcome ≡ Err unconnected
  StepComes piece _ _ outcome = ⊥

  -- what octets may leave so, in an interpreter that may hold no database
  abbrev pub StepMayRun : List ℕ → Option (Held S) → Option (Held S) → Type 0
  StepMayRun piece (Some old) (Some new) = PieceMayRun piece old new
  StepMayRun piece None None = ⊤
  StepMayRun piece _ _ = ⊥

  -- a step runs the first statement that waits
  abbrev pub Steps : Option (Held S) → List (List ℕ) → Stepped → Option (Held S) → List (List ℕ) → Type 0
  Steps old [] stepped new left = ⊥
  Steps old (piece ∷ pieces) stepped new left =
      (left ≡ pieces)
      × ((outcome : Result (List Output) InterpFault) × StepComes piece old new outcome
      × (stepped ≡ stepped_of outcome (length pieces == 0)))

  -- what a step may leave that found no memory
  abbrev pub BreaksOff : Option (Held S) → List (List ℕ) → Option (Held S) → Type 0
  BreaksOff old [] new = ⊥
  BreaksOff old (piece ∷ pieces) new = StepMayRun piece old new

  -- a cell is the parts of its text
  abbrev pub Begins : Option (Held S) → List ℕ → Result (List (List ℕ)) InterpFault → Option (Held S) → Type 0
  Begins old text (Ok cell) new = IsCut text cell × (new ≡ old)
  Begins old text (Err fault) new = ⊥

  -- what a text is worth as an expression
  abbrev pub Evaluates : Option (Held S) → List ℕ → Result (List ℕ) InterpFault → Option (Held S) → Type 0
  Evaluates (Some old) text outcome (Some new) = Comes worth (expression_query text) old new outcome
  Evaluates None text outcome None = outcome ≡ Err unconnected
  Evaluates _ text outcome _ = ⊥

  -- what an evaluation may leave that found no memory
  abbrev pub GivesUp : Option (Held S) → List ℕ → Option (Held S) → Type 0
  GivesUp (Some old) text (Some new) = MayRunText (expression_query text) old new
  GivesUp None text None = ⊤
  GivesUp _ text _ = ⊥

  -- what may stand for the word before a cursor: nothing if there is no database
  abbrev pub completes : Option (Held S) → List ℕ → ℕ → Completion
  completes (Some held) text cursor = completion held.schema text cursor
  completes None text cursor = record { matches = []; start = cursor; end = cursor }

  -- what is known of the word at a cursor: nothing if there is no database
  abbrev pub inspects : Option (Held S) → List ℕ → ℕ → Option (List ℕ)
  inspects (Some held) text cursor = inspection held.schema text cursor
  inspects None text cursor = None

  -- whether a text is a whole cell
  abbrev pub Judges : List ℕ → Result Completeness InterpFault → Type 0
  Judges text (Ok judged) = IsJudged text judged
  Judges text (Err fault) = ⊥

  -- SQL as an interpreter
  abbrev pub sql_meaning : Meaning (Option (Held S)) (List (List ℕ))
  sql_meaning = record {
    tells = λ state answer. answer ≡ Ok sql_info;
    begins = Begins;
    steps = λ cell. length cell;
    runs = Steps;
    breaks_off = BreaksOff;
    completes = λ state text cursor answer. answer ≡ Ok (completes state text cursor);
    inspects = λ state text cursor answer. answer ≡ Ok (inspects state text cursor);
    judges = λ state text answer. Judges text answer;
    evaluates = Evaluates;
    gives_up = GivesUp;
  }
