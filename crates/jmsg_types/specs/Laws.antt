-- What follows from the table of requests.
use Rattle.std.specs.Prelude.{◌≡◌, ℕ, List, ◌++◌, Some, codes}
use Rattle.jmsg_types.specs.Request.{message_type, row_of}
use Rattle.jmsg_types.specs.declared.message_type.MessageType.{MessageType}

-- Each type is found by its name: no two types have the same name, and the list of all types has each.
abbrev pub EachTypeIsFound : Type 0
EachTypeIsFound = (kind : MessageType) → message_type (row_of kind).msg_type ≡ Some kind

-- If a type of request is replied to, its name ends in `_request`. Its reply's name has `_reply` in that place
-- ('Messaging in Jupyter' 5.3, "General Message Format").
abbrev pub RepliesAreNamedForRequests : Type 0
RepliesAreNamedForRequests =
    (kind : MessageType) (name : List ℕ) → (row_of kind).reply ≡ Some name
    → (stem : List ℕ) × ((row_of kind).msg_type ≡ stem ++ codes "_request") × (name ≡ stem ++ codes "_reply")
