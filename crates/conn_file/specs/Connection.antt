-- What a connection file says ('Jupyter Client', "Connection files"; its text is JSON, RFC 8259). If it is refused, the
-- reason is the first one, in the order of the fields.
use Rattle.std.specs.Prelude.{ℕ, List, ◌&&◌, nat_le, if◌then◌else◌, Option, Some, None, Result, Ok, Err, codes}
use Rattle.std.specs.Prelude.{option_and_then, is_some}
use Rattle.std.specs.Option.{ok_or, option_map_or}
use Rattle.std.specs.Str.{bytes_eq}
use Rattle.serde_json.specs.Data.{Data}
use Rattle.serde_json.specs.Find.{as_number, as_object, as_str, as_u64, get}
use Rattle.serde_json.specs.Read.{read}
use Rattle.conn_file.specs.declared.connection.Connection.{Connection}
use Rattle.conn_file.specs.declared.field.Field.{Field}
use Rattle.conn_file.specs.declared.field.Field.TheVariants as fields
use Rattle.conn_file.specs.declared.fault.ConnFault.{ConnFault}
use Rattle.conn_file.specs.declared.fault.ConnFault.TheVariants.{NotJson, Missing, Port, Transport, Scheme, OutOfMemory}

-- the key of a field that is read
abbrev pub field_name : Field → List ℕ
field_name fields.Transport = codes "transport"
field_name fields.Ip = codes "ip"
field_name fields.ShellPort = codes "shell_port"
field_name fields.IopubPort = codes "iopub_port"
field_name fields.ControlPort = codes "control_port"
field_name fields.HbPort = codes "hb_port"
field_name fields.SignatureScheme = codes "signature_scheme"
field_name fields.Key = codes "key"

-- the transport that a kernel speaks
abbrev pub known_transport : List ℕ
known_transport = codes "tcp"

-- the scheme by which a kernel signs
abbrev pub known_scheme : List ℕ
known_scheme = codes "hmac-sha256"

-- what a field has to be, in words: the one text that is known, any text, or a port
abbrev pub expected_words : Field → List ℕ
expected_words fields.Transport = known_transport
expected_words fields.Ip = codes "a text"
expected_words fields.ShellPort = codes "a whole number from 1 to 65535"
expected_words fields.IopubPort = codes "a whole number from 1 to 65535"
expected_words fields.ControlPort = codes "a whole number from 1 to 65535"
expected_words fields.HbPort = codes "a whole number from 1 to 65535"
expected_words fields.SignatureScheme = known_scheme
expected_words fields.Key = codes "a text"

-- the number of a fault; they count from 40 on, in the order in which the faults are listed
abbrev pub conn_fault_number : ConnFault → ℕ
conn_fault_number NotJson = 40
conn_fault_number (Missing field) = 41
conn_fault_number (Port field) = 42
conn_fault_number Transport = 43
conn_fault_number Scheme = 44
conn_fault_number OutOfMemory = 45

-- the text of a field: without the field, or if it is no text, the field counts as missing
abbrev pub text_in : Field → Data → Result (List ℕ) ConnFault
text_in field file = ok_or (option_and_then as_str (get (field_name field) file)) (Missing field)

-- a whole number from 1 to 65535
abbrev pub port_number : Data → Option ℕ
port_number value =
    option_and_then (λ port. if nat_le 1 port && nat_le port 65535 then Some port else None)
    (option_and_then as_u64 (as_number value))

-- the port of a field, which has to be there and to hold a whole number from 1 to 65535
abbrev pub port_in : Field → Data → Result ℕ ConnFault
port_in field file =
    option_map_or (λ value. ok_or (port_number value) (Port field)) (get (field_name field) file) (Err (Missing field))

-- a text that has to be this one, or the fault is this
abbrev pub expected : List ℕ → ConnFault → List ℕ → Result Unit ConnFault
expected wanted fault text = if bytes_eq text wanted then Ok tt else Err fault

-- the first is judged, and the next if it isn't refused
abbrev pub then_judged : {A B : Type 0} → Result A ConnFault → (A → Result B ConnFault) → Result B ConnFault
then_judged (Ok value) next = next value
then_judged (Err fault) next = Err fault

-- what the fields of a connection file say, judged in their order
abbrev pub fields_in : Data → Result Connection ConnFault
fields_in file =
    then_judged (text_in fields.Transport file) (λ transport.
    then_judged (expected known_transport Transport transport) (λ known.
    then_judged (text_in fields.Ip file) (λ ip.
    then_judged (port_in fields.ShellPort file) (λ shell_port.
    then_judged (port_in fields.IopubPort file) (λ iopub_port.
    then_judged (port_in fields.ControlPort file) (λ control_port.
    then_judged (port_in fields.HbPort file) (λ hb_port.
    then_judged (text_in fields.SignatureScheme file) (λ scheme.
    then_judged (expected known_scheme Scheme scheme) (λ signs.
    then_judged (text_in fields.Key file) (λ key.
    Ok (record {
      ip = ip;
      shell_port = shell_port;
      iopub_port = iopub_port;
      control_port = control_port;
      hb_port = hb_port;
      key = key;
    })))))))))))

-- what was read has to be an object of JSON
abbrev pub object_in : Option Data → Result Data ConnFault
object_in None = Err NotJson
object_in (Some file) = if is_some (as_object file) then Ok file else Err NotJson

-- a text as an object of JSON (RFC 8259), or that it is none
abbrev pub object_of : List ℕ → Result Data ConnFault
object_of text = object_in (read text)

-- what the text of a connection file says, or the first reason why it is refused
abbrev pub connection_of : List ℕ → Result Connection ConnFault
connection_of text = then_judged (object_of text) fields_in
