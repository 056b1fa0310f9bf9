-- Why a statement failed, as it is told.
use Rattle.std.specs.Prelude.{ℕ, ◌-◌, Bool, true, false, ◌==◌, if◌then◌else◌, List, [], ◌++◌, codes, length, Result}
use Rattle.std.specs.Prelude.{Ok, Err, min}
use Rattle.std.specs.Str.Lossy.{utf8_lossy}
use Rattle.interp_core.specs.declared.fault.InterpFault.{InterpFault}
use Rattle.interp_core.specs.declared.fault.InterpFault.TheVariants as fault
use Rattle.sqlite_syntax.specs.declared.error.ParseError.{ParseError}
use Rattle.sqlite_syntax.specs.declared.error.ParseError.TheVariants as parse
use Rattle.sqlite_schema.specs.declared.schema.Constraint.{Constraint}
use Rattle.sqlite_schema.specs.declared.schema.Constraint.TheVariants as constraint
use Rattle.sqlite_resolve.specs.declared.error.CompileError.{CompileError}
use Rattle.sqlite_resolve.specs.declared.error.CompileError.TheVariants as compile
use Rattle.sqlite.specs.declared.error.ErrorCode.{ErrorCode}
use Rattle.sqlite.specs.declared.error.ErrorCode.TheVariants as code
use Rattle.sqlite.specs.declared.error.Error.{Error}
use Rattle.sqlite.specs.declared.error.Error.TheVariants as error
use Rattle.sql_cells.specs.Places.{pointed, solid_len}

-- the kind of an error, by which a front end names it
abbrev pub error_name : Error → List ℕ
error_name (error.SqlInputError (compile.Parse e)) = codes "SyntaxError"
error_name (error.SqliteFailure (code.ConstraintViolation rule)) = codes "IntegrityError"
error_name (error.SqliteFailure code.TypeMismatch) = codes "IntegrityError"
error_name (error.SqliteFailure c) = codes "OperationalError"
error_name _ = codes "ProgrammingError"

-- why a text has no reading
abbrev pub parse_words : ParseError → List ℕ
parse_words (parse.Syntax left) = if left == 0 then codes "incomplete input" else codes "syntax error"
parse_words (parse.Unsupported left) = codes "this SQL is not supported"
parse_words parse.TooDeep = codes "an expression nests too deep, or a list is too long"
parse_words parse.BadParameter = codes "variable number must be between ?1 and ?32766"
parse_words parse.OutOfMemory = codes "out of memory"

-- why a text that has a reading has no meaning
abbrev pub compile_words : CompileError → List ℕ
compile_words (compile.Parse e) = parse_words e
compile_words compile.NoSuchTable = codes "no such table"
compile_words compile.NoSuchIndex = codes "no such index"
compile_words compile.NoSuchColumn = codes "no such column"
compile_words compile.NoSuchFunction = codes "no such function"
compile_words compile.Ambiguous = codes "ambiguous column name"
compile_words compile.Exists = codes "a table, an index or a column already exists under this name"
compile_words compile.Misuse =
    codes "misuse of an aggregate or of a reserved name, or a wrong count of values or arguments"
compile_words compile.Mismatch = codes "the types need a conversion that is not supported"
compile_words compile.Unsupported = codes "this SQL is not supported"
compile_words compile.TooBig = codes "the statement is too large"
compile_words (compile.NeedsView place) = codes "a view is not supported here"
compile_words compile.OutOfMemory = codes "out of memory"

-- which rule of the schema a change would break
abbrev pub constraint_words : Constraint → List ℕ
constraint_words constraint.Datatype = codes "cannot store a value of this type in the column"
constraint_words constraint.NotNull = codes "NOT NULL constraint failed"
constraint_words constraint.Check = codes "CHECK constraint failed"
constraint_words constraint.PrimaryKey = codes "UNIQUE constraint failed: the row's PRIMARY KEY"
constraint_words constraint.Unique = codes "UNIQUE constraint failed"
constraint_words constraint.ForeignKey = codes "FOREIGN KEY constraint failed"

-- why a statement failed as it ran
abbrev pub code_words : ErrorCode → List ℕ
code_words (code.ConstraintViolation rule) = constraint_words rule
code_words code.TypeMismatch = codes "datatype mismatch"
code_words code.IntegerOverflow = codes "integer overflow"
code_words code.NoRowid = codes "database or disk is full: no rowid is left"
code_words code.ForeignKeyMismatch = codes "foreign key mismatch"
code_words code.TooDeep = codes "too many levels of trigger recursion"
code_words code.NoClock = codes "the statement reads the time, and no clock is set"
code_words code.NameTaken = codes "there is already a table or an index of this name"
code_words code.BadName = codes "object name reserved for internal use"
code_words code.BadKey = codes "malformed PRIMARY KEY"
code_words code.BadText = codes "the statement cannot be kept in the schema"
code_words code.SchemaTooBig = codes "too many objects or columns"
code_words code.TransactionState =
    codes "cannot start a transaction within a transaction, or end one when no transaction is active"
code_words code.NoSuchSavepoint = codes "no such savepoint"
code_words code.OperationInterrupted =
    codes "interrupted: the query took more steps than its limit; `.limit N` allows N steps"
code_words code.NotADatabase = codes "file is not a database"
code_words code.DatabaseCorrupt = codes "database disk image is malformed"
code_words code.CannotOpen = codes "unable to open database file"
code_words code.DatabaseBusy = codes "database is locked"
code_words code.TooBig = codes "string or blob too big"
code_words code.OutOfMemory = codes "out of memory"
code_words code.SystemIoFailure = codes "disk I/O error"
code_words code.DiskFull = codes "database or disk is full"
code_words code.Closed = codes "an earlier failure of the disk closed the database"

-- why a statement failed
abbrev pub error_words : Error → List ℕ
error_words (error.SqlInputError e) = compile_words e
error_words (error.SqliteFailure c) = code_words c
error_words (error.InvalidParameterCount given wanted) = codes "the statement has parameters, and none are bound"
error_words error.MultipleStatement = codes "You can only execute one statement at a time."
error_words error.ExecuteReturnedResults = codes "the statement shows rows"
error_words error.InvalidQuery = codes "the statement shows no rows"
error_words error.QueryReturnedNoRows = codes "the query shows no rows"
error_words (error.InvalidColumnIndex at) = codes "there is no such column"
error_words (error.InvalidColumnType at type) = codes "the column has another type"
error_words (error.IntegralValueOutOfRange at) = codes "the integer is out of range"
error_words (error.Utf8Error at) = codes "the text is no UTF-8"

-- The line of a statement that an error points to, which counts the octets left at its place. What is missing at the
-- end is missing at the end of the last line that isn't blank.
abbrev pub place_words : List ℕ → Error → List ℕ
place_words sql (error.SqlInputError (compile.Parse (parse.Syntax left))) =
    pointed sql (min (length sql - left) (solid_len sql))
place_words sql (error.SqlInputError (compile.Parse (parse.Unsupported left))) = pointed sql (length sql - left)
place_words sql _ = []

-- what is said of an error of a statement
abbrev pub error_text : List ℕ → Error → List ℕ
error_text sql e = utf8_lossy (error_words e ++ place_words sql e)

-- the store found no memory
abbrev pub is_memory : Error → Bool
is_memory (error.SqliteFailure code.OutOfMemory) = true
is_memory (error.SqlInputError compile.OutOfMemory) = true
is_memory (error.SqlInputError (compile.Parse parse.OutOfMemory)) = true
is_memory _ = false

-- a fault by whether it is want of memory, its name and what is said of it
abbrev pub fault_if : Bool → List ℕ → List ℕ → InterpFault
fault_if true name value = fault.OutOfMemory
fault_if false name value = fault.Raised name value

-- the fault of an error of a statement
abbrev pub fault_of : List ℕ → Error → InterpFault
fault_of sql e = fault_if (is_memory e) (error_name e) (error_text sql e)

-- what a statement came to, as it is told
abbrev pub told : {T U : Type 0} → (T → U) → List ℕ → Result T Error → Result U InterpFault
told show sql (Ok came) = Ok (show came)
told show sql (Err e) = Err (fault_of sql e)
