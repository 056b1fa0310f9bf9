-- The hexadecimal text that is read, and the three lines that are printed.
use Rattle.std.specs.Prelude.{ℕ, List, [], ◌∷◌, ◌++◌, Bool, not, ◌||◌, ◌==◌, Option, codes, decimal, filter}
use Rattle.std.specs.Result.{result_ok}
use Rattle.hex.specs.Hex.{decode_of, encode_lower, is_hex_digit}
use Rattle.iopub_event.specs.declared.event.Event.{Event}
use Rattle.iopub_event.specs.declared.event.Event.TheVariants.{Message, Attach, Subscribe, Cancel, Pong, Detach}
use Rattle.zmtp_wire.specs.Frame.{text}
use Rattle.zmtp_wire.specs.Fault.{wire_fault_number}
use Rattle.kernel_replay.specs.declared.lines.PrintedEnd.{PrintedEnd}
use Rattle.kernel_replay.specs.declared.lines.PrintedEnd.TheVariants as ended
use Rattle.kernel_session.specs.declared.end.SessionEnd.{SessionEnd}
use Rattle.kernel_session.specs.declared.end.SessionEnd.TheVariants.{Shutdown, Failed}
use Rattle.zmtp_connection.specs.declared.end.ConnectionEnd.TheVariants as closed
use Rattle.zmtp_connection.specs.declared.end.Ending.{Ending}
use Rattle.zmtp_connection.specs.declared.end.Ending.TheVariants.{Connection, Host}

-- Whether an octet is ASCII white space: a tab, a line feed, a form feed, a carriage return or a space.
abbrev pub is_white_space : ℕ → Bool
is_white_space octet = octet == 9 || octet == 10 || octet == 12 || octet == 13 || octet == 32

-- Whether an octet is neither a hexadecimal digit nor ASCII white space.
abbrev pub is_stray : ℕ → Bool
is_stray octet = not (is_white_space octet || is_hex_digit octet)

-- A text with its white space taken out.
abbrev pub without_white_space : List ℕ → List ℕ
without_white_space text = filter (λ octet. not (is_white_space octet)) text

-- the octets that a text spells, if without its white space it is an even number of hexadecimal digits
abbrev pub hex_octets : List ℕ → Option (List ℕ)
hex_octets text = result_ok (decode_of (without_white_space text))

-- The words for how a session ended: the peer sent its last octet, asked for a shutdown, or broke the protocol, with
-- the fault's number. A session that failed has no words and isn't printed.
abbrev pub ending_text : Ending SessionEnd → List ℕ
ending_text (Connection closed.Eof) = codes "eof"
ending_text (Connection (closed.Wire fault)) = codes "fault " ++ decimal (wire_fault_number fault)
ending_text (Connection (closed.Failed fault)) = []
ending_text (Host (Shutdown restart)) = codes "shutdown"
ending_text (Host (Failed fault)) = []

-- the words for an ending
abbrev pub ending_words : PrintedEnd → List ℕ
ending_words ended.Eof = codes "eof"
ending_words ended.Shutdown = codes "shutdown"
ending_words (ended.Fault fault) = codes "fault " ++ decimal (wire_fault_number fault)

-- The printed lines of a session: what the shell wrote and what was published, as hexadecimal digits in lower case, and
-- the words for how it ended.
abbrev pub printed_lines : List ℕ → List ℕ → List ℕ → List ℕ
printed_lines shell iopub words =
    codes "shell " ++ (encode_lower shell ++ 10 ∷
    (codes "iopub " ++ (encode_lower iopub ++ 10 ∷
    (codes "end " ++ (words ++ 10 ∷ [])))))

-- the text of an event on the wire: that of a message, and none for others
abbrev pub event_text : {W : Type 0} → Event W → List ℕ
event_text (Message frames) = text frames
event_text (Attach id writer) = []
event_text (Subscribe id topic) = []
event_text (Cancel id topic) = []
event_text (Pong id context) = []
event_text (Detach id) = []
