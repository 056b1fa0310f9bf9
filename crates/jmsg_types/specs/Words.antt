-- The words by which a reply reports a refused content ('Messaging in Jupyter' 5.3, "Request-Reply").
use Rattle.std.specs.Prelude.{ℕ, List, ◌++◌, codes}
use Rattle.jmsg_types.specs.Fault.{Refusal, not_json, not_an_object, field}

-- the `ename` of every refusal
abbrev pub refusal_name : List ℕ
refusal_name = codes "ContentError"

-- the `evalue` of a refusal
abbrev pub refusal_value : Refusal → List ℕ
refusal_value not_json = codes "content is not JSON"
refusal_value not_an_object = codes "content is not an object"
refusal_value (field name) = codes "field " ++ name
