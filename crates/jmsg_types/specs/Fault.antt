-- What may be wrong with a content, and what an answer tells of it.
use Rattle.std.specs.Prelude.{◌≡◌, ℕ, List, Option, Some, None, IfSome, option_map, Result, Ok, Err, MatchResult}
use Rattle.jmsg_types.specs.declared.fault.ContentFault.{ContentFault}
use Rattle.jmsg_types.specs.declared.fault.ContentFault.TheVariants.{NotJson, NotAnObject, Field, OutOfMemory}

-- why a content is refused: it is no JSON, it is no object, or the field of this name is missing or of a wrong kind
pub data Refusal : Type 0 where
  not_json : Refusal
  not_an_object : Refusal
  field : List ℕ → Refusal

-- the refusal that a fault tells; want of memory tells none
abbrev pub refusal_of : ContentFault → Option Refusal
refusal_of NotJson = Some not_json
refusal_of NotAnObject = Some not_an_object
refusal_of (Field name) = Some (field name.now)
refusal_of OutOfMemory = None

-- the number of a fault, for a report that has room for a number only; they count from 30 on
abbrev pub content_fault_number : ContentFault → ℕ
content_fault_number NotJson = 30
content_fault_number NotAnObject = 31
content_fault_number (Field name) = 32
content_fault_number OutOfMemory = 33

-- an answer is what is due: the value, or a fault that tells the refusal
abbrev pub IsAnswer : {A : Type 0} → Result A ContentFault → Result A Refusal → Type 0
IsAnswer answer due =
    MatchResult answer (λ value. due ≡ Ok value) (λ fault. option_map Err (refusal_of fault) ≡ Some due)

-- an answer is what is due, or memory was wanting
abbrev pub IsAnswerOrMemory : {A : Type 0} → Result A ContentFault → Result A Refusal → Type 0
IsAnswerOrMemory answer due =
    MatchResult answer (λ value. due ≡ Ok value) (λ fault. IfSome (refusal_of fault) (λ refusal. due ≡ Err refusal))
