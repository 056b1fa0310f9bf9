-- What a client may ask ('Messaging in Jupyter' 5.3, "Messages on the shell (ROUTER/DEALER) channel", "Custom Messages"
-- and "Messages on the control (ROUTER/DEALER) channel").
use Rattle.std.specs.Prelude.{ℕ, List, [], ◌∷◌, true, false, ◌&&◌, not, ⊤, codes, find}
use Rattle.std.specs.Prelude.{Option, Some, None, option_and_then, Result, Ok}
use Rattle.std.specs.Option.{option_map_or}
use Rattle.std.specs.Str.{bytes_eq}
use Rattle.serde_json.specs.Data.{Members}
use Rattle.jmsg_types.specs.Fault.{Refusal}
use Rattle.jmsg_types.specs.Field.{required, optional, and_then, as_text, as_truth, optional_cursor, as_level}
use Rattle.jmsg_types.specs.Field.{as_texts, members_in, NamesRise}
use Rattle.jmsg_types.specs.declared.request.Request.{Request}
use Rattle.jmsg_types.specs.declared.request.Request.TheVariants as asks
use Rattle.jmsg_types.specs.declared.message_type.ErrorForm.{ErrorForm}
use Rattle.jmsg_types.specs.declared.message_type.ErrorForm.TheVariants.{NoError, Plain, Counted}
use Rattle.jmsg_types.specs.declared.message_type.Heard.{Heard}
use Rattle.jmsg_types.specs.declared.message_type.Heard.TheVariants.{Everywhere, OnShell, Nowhere}
use Rattle.jmsg_types.specs.declared.message_type.MessageType.{MessageType}
use Rattle.jmsg_types.specs.declared.message_type.MessageType.TheVariants.{KernelInfoRequest, ExecuteRequest}
use Rattle.jmsg_types.specs.declared.message_type.MessageType.TheVariants.{CompleteRequest, InspectRequest}
use Rattle.jmsg_types.specs.declared.message_type.MessageType.TheVariants.{IsCompleteRequest, HistoryRequest}
use Rattle.jmsg_types.specs.declared.message_type.MessageType.TheVariants.{CommInfoRequest, CommOpen, CommMsg}
use Rattle.jmsg_types.specs.declared.message_type.MessageType.TheVariants.{CommClose, ShutdownRequest}
use Rattle.jmsg_types.specs.declared.message_type.MessageType.TheVariants.{InterruptRequest}

-- A row of the table of requests. It has the name of the message type, and the request that its fields mean, which are
-- judged in their order. It tells the type of the message that replies, and the channels on which the type has a
-- meaning. It also tells which error replies if the content is refused.
pub record RequestRow : Type 0 where
  pub msg_type : List ℕ
  pub fields : Members → Result Request Refusal
  pub reply : Option (List ℕ)
  pub heard : Heard
  pub error : ErrorForm

-- The table of requests. If a cell is silent it isn't stored in the history. A cursor past the code's end is at its
-- end. Requests for the kernel's info, its shutdown and an interrupt are heard on shell and on control, and the others
-- on shell alone. This kernel has no comms, so it hears only that one is opened.
abbrev pub row_of : MessageType → RequestRow
row_of KernelInfoRequest = record {
  msg_type = codes "kernel_info_request";
  fields = λ members. Ok asks.KernelInfo;
  reply = Some (codes "kernel_info_reply");
  heard = Everywhere;
  error = Plain;
}
row_of ExecuteRequest = record {
  msg_type = codes "execute_request";
  fields = λ members.
      and_then (required as_text (codes "code") members) (λ code.
      and_then (optional as_truth false (codes "silent") members) (λ silent.
      and_then (optional as_truth true (codes "store_history") members) (λ store_history.
      and_then (optional as_texts [] (codes "user_expressions") members) (λ user_expressions.
      and_then (optional as_truth true (codes "allow_stdin") members) (λ allow_stdin.
      and_then (optional as_truth true (codes "stop_on_error") members) (λ stop_on_error.
      Ok (asks.Execute code silent (store_history && not silent) user_expressions allow_stdin stop_on_error)))))));
  reply = Some (codes "execute_reply");
  heard = OnShell;
  error = Counted;
}
row_of CompleteRequest = record {
  msg_type = codes "complete_request";
  fields = λ members.
      and_then (required as_text (codes "code") members) (λ code.
      and_then (optional_cursor code (codes "cursor_pos") members) (λ cursor.
      Ok (asks.Complete code cursor)));
  reply = Some (codes "complete_reply");
  heard = OnShell;
  error = Plain;
}
row_of InspectRequest = record {
  msg_type = codes "inspect_request";
  fields = λ members.
      and_then (required as_text (codes "code") members) (λ code.
      and_then (optional_cursor code (codes "cursor_pos") members) (λ cursor.
      and_then (optional as_level 0 (codes "detail_level") members) (λ level.
      Ok (asks.Inspect code cursor level))));
  reply = Some (codes "inspect_reply");
  heard = OnShell;
  error = Plain;
}
row_of IsCompleteRequest = record {
  msg_type = codes "is_complete_request";
  fields = λ members.
      and_then (required as_text (codes "code") members) (λ code.
      Ok (asks.IsComplete code));
  reply = Some (codes "is_complete_reply");
  heard = OnShell;
  error = Plain;
}
row_of HistoryRequest = record {
  msg_type = codes "history_request";
  fields = λ members. Ok asks.History;
  reply = Some (codes "history_reply");
  heard = OnShell;
  error = Plain;
}
row_of CommInfoRequest = record {
  msg_type = codes "comm_info_request";
  fields = λ members. Ok asks.CommInfo;
  reply = Some (codes "comm_info_reply");
  heard = OnShell;
  error = Plain;
}
row_of CommOpen = record {
  msg_type = codes "comm_open";
  fields = λ members.
      and_then (required as_text (codes "comm_id") members) (λ comm_id.
      Ok (asks.CommOpen comm_id));
  reply = None;
  heard = OnShell;
  error = NoError;
}
row_of CommMsg = record {
  msg_type = codes "comm_msg";
  fields = λ members. Ok asks.CommMsg;
  reply = None;
  heard = Nowhere;
  error = NoError;
}
row_of CommClose = record {
  msg_type = codes "comm_close";
  fields = λ members. Ok asks.CommClose;
  reply = None;
  heard = Nowhere;
  error = NoError;
}
row_of ShutdownRequest = record {
  msg_type = codes "shutdown_request";
  fields = λ members.
      and_then (optional as_truth false (codes "restart") members) (λ restart.
      Ok (asks.Shutdown restart));
  reply = Some (codes "shutdown_reply");
  heard = Everywhere;
  error = Plain;
}
row_of InterruptRequest = record {
  msg_type = codes "interrupt_request";
  fields = λ members. Ok asks.Interrupt;
  reply = Some (codes "interrupt_reply");
  heard = Everywhere;
  error = Plain;
}

-- The types of the table, all of them.
abbrev pub message_types : List MessageType
message_types =
    KernelInfoRequest ∷ ExecuteRequest ∷ CompleteRequest ∷ InspectRequest ∷ IsCompleteRequest ∷ HistoryRequest
    ∷ CommInfoRequest ∷ CommOpen ∷ CommMsg ∷ CommClose ∷ ShutdownRequest ∷ InterruptRequest ∷ []

-- the type that has this name in the table, if there is one
abbrev pub message_type : List ℕ → Option MessageType
message_type name = find (λ kind. bytes_eq name (row_of kind).msg_type) message_types

-- the type of the reply to messages of a type, if these are replied to
abbrev pub reply_type_of : List ℕ → Option (List ℕ)
reply_type_of name = option_and_then (λ kind. (row_of kind).reply) (message_type name)

-- the request that a content of a type means, or why it is refused
abbrev pub known_request : MessageType → List ℕ → Result Request Refusal
known_request kind content = and_then (members_in content) (row_of kind).fields

-- The request that a message of a type and a content means, or why it is refused. If the type is unknown, its content
-- isn't read.
abbrev pub request_in : List ℕ → List ℕ → Result Request Refusal
request_in msg_type content =
    option_map_or (λ kind. known_request kind content) (message_type msg_type) (Ok asks.Unknown)

-- The user expressions of a request stand by the order of their names' octets, each name once. Other requests have
-- none.
abbrev pub ExpressionsRise : Request → Type 0
ExpressionsRise asks.KernelInfo = ⊤
ExpressionsRise (asks.Execute code silent store_history user_expressions allow_stdin stop_on_error) =
    NamesRise user_expressions
ExpressionsRise (asks.Complete code cursor_pos) = ⊤
ExpressionsRise (asks.Inspect code cursor_pos detail_level) = ⊤
ExpressionsRise (asks.IsComplete code) = ⊤
ExpressionsRise asks.History = ⊤
ExpressionsRise asks.CommInfo = ⊤
ExpressionsRise (asks.CommOpen comm_id) = ⊤
ExpressionsRise asks.CommMsg = ⊤
ExpressionsRise asks.CommClose = ⊤
ExpressionsRise (asks.Shutdown restart) = ⊤
ExpressionsRise asks.Interrupt = ⊤
ExpressionsRise asks.Unknown = ⊤
