-- What is published of a request between busy and idle ('Messaging in Jupyter' 5.3, "Messages on the IOPub (PUB/SUB)
-- channel").
use Rattle.std.specs.Prelude.{◌≡◌, ℕ, ◌+◌, List, [], ◌∷◌, ◌++◌, map, Bool, true, false, if◌then◌else◌}
use Rattle.std.specs.Prelude.{Some, None, Ok, Err, option_to_list}
use Rattle.interp_core.specs.Interpreter.{Meaning}
use Rattle.interp_core.specs.Fault.{fault_name, fault_value}
use Rattle.interp_core.specs.declared.answer.Output.{Output}
use Rattle.interp_core.specs.declared.answer.Output.TheVariants as writes
use Rattle.jmsg_types.specs.declared.publication.Publication.{Publication}
use Rattle.jmsg_types.specs.declared.publication.Publication.TheVariants.{ExecuteInput, Stream, ExecuteResult}
use Rattle.jmsg_types.specs.declared.publication.Publication.TheVariants.{Display, DisplayHtml, Error}
use Rattle.kernel_engine.specs.declared.does.Does.{Does}
use Rattle.kernel_engine.specs.declared.does.Does.TheVariants.{Says, Looks, Runs, Refuses, Unread}
use Rattle.kernel_engine.specs.Course.{Course, Outcome, TextRuns}

-- what a cell wrote, as it is published ("Streams", "Display Data")
abbrev pub publication_of : Output → Publication
publication_of (writes.Stdout text) = Stream false text
publication_of (writes.Stderr text) = Stream true text
publication_of (writes.Display text shown) = Display text shown
publication_of (writes.DisplayHtml text html) = DisplayHtml text html

-- What is published of how a cell ended: its last value if it has one, or the error if it failed ("Execution results",
-- "Execution errors").
abbrev pub last_of : ℕ → Outcome → List Publication
last_of count (Ok None) = []
last_of count (Ok (Some text)) = ExecuteResult text count ∷ []
last_of count (Err fault) = Error (fault_name fault) (fault_value fault) ∷ []

-- the execution count after a cell: one more if the cell is stored in the history, and else the same
abbrev pub count_after : Bool → ℕ → ℕ
count_after store_history count = if store_history then count + 1 else count

-- A cell is published with this execution count: first the cell itself, then what it wrote, then what came of it.
pub record PublishesCell {State Cell : Type 0} (m : Meaning State Cell) (code : List ℕ) (count : ℕ) (state : State)
    (course : Course State) (publications : List Publication) : Type 0 where
  pub outputs : List Output
  pub outcome : Outcome
  pub after : State
  pub runs : TextRuns m state code course outputs outcome after
  pub all : publications ≡ ExecuteInput code count ∷ (map publication_of outputs ++ last_of count outcome)

-- Nothing of a silent cell is published. The arguments are those of `PublishesCell`, and whether the cell is silent.
abbrev pub PublishesUnless : {State Cell : Type 0} → Bool → Meaning State Cell → List ℕ → ℕ → State → Course State
    → List Publication → Type 0
PublishesUnless true m code count state course publications = publications ≡ []
PublishesUnless false m code count state course publications = PublishesCell m code count state course publications

-- What is published of a request by a course, by what it comes to. The arguments are the language, what the request
-- comes to, the state and the execution count before, and the course. All that is said of a request begins with these.
abbrev pub Publishes : {State Cell : Type 0} → Meaning State Cell → Does → State → ℕ → Course State
    → List Publication → Type 0
Publishes m (Says publication reply order) state count course publications =
    publications ≡ option_to_list publication
Publishes m (Looks look) state count course publications = publications ≡ []
Publishes m (Runs code silent counts expressions) state count course publications =
    PublishesUnless silent m code (count_after counts count) state course publications
Publishes m (Refuses kind ename evalue) state count course publications = publications ≡ []
Publishes m Unread state count course publications = publications ≡ []
