-- What each request comes to, in one row for each ('Messaging in Jupyter' 5.3, "Messages on the shell (ROUTER/DEALER)
-- channel" and "Messages on the control (ROUTER/DEALER) channel").
use Rattle.std.specs.Prelude.{◌≡◌, ◌⊎◌, ℕ, List, Bool, true, false, if◌then◌else◌, Option, Some, None, Result, Ok, Err}
use Rattle.jmsg_envelope.specs.declared.envelope.Envelope.{Envelope}
use Rattle.jmsg_types.specs.Fault.{Refusal}
use Rattle.jmsg_types.specs.Request.{known_request, message_type, row_of}
use Rattle.jmsg_types.specs.Words.{refusal_name, refusal_value}
use Rattle.jmsg_types.specs.declared.message_type.Heard.{Heard}
use Rattle.jmsg_types.specs.declared.message_type.Heard.TheVariants.{Everywhere, OnShell, Nowhere}
use Rattle.jmsg_types.specs.declared.message_type.MessageType.{MessageType}
use Rattle.jmsg_types.specs.declared.publication.Publication.{Publication}
use Rattle.jmsg_types.specs.declared.publication.Publication.TheVariants.{CommClose}
use Rattle.jmsg_types.specs.declared.reply.Reply.{Reply}
use Rattle.jmsg_types.specs.declared.reply.Reply.TheVariants as tells
use Rattle.jmsg_types.specs.declared.request.Request.{Request}
use Rattle.jmsg_types.specs.declared.request.Request.TheVariants as asks
use Rattle.kernel_engine.specs.declared.does.Does.{Does}
use Rattle.kernel_engine.specs.declared.does.Does.TheVariants.{Says, Looks, Runs, Refuses, Unread}
use Rattle.kernel_engine.specs.declared.does.Look.TheVariants.{Info, Completion, Inspection, Completeness}
use Rattle.kernel_engine.specs.declared.does.Order.{Order}
use Rattle.kernel_engine.specs.declared.does.Order.TheVariants.{GoOn, Interrupt, End}
use Rattle.kernel_engine.specs.declared.side.Side.{Side}
use Rattle.kernel_engine.specs.declared.side.Side.TheVariants.{Shell, Control}

-- what a request comes to that is only replied to
abbrev pub replies : Reply → Does
replies reply = Says None (Some reply) GoOn

-- what a request comes to by which only something is published
abbrev pub publishes : Publication → Does
publishes publication = Says (Some publication) None GoOn

-- what a message comes to by which nothing is done
abbrev pub nothing : Does
nothing = Says None None GoOn

-- What the kernel is to do if an interruption is asked for on a channel. On shell that is nothing, since the cell that
-- was to be interrupted is done by then.
abbrev pub interrupts : Side → Order
interrupts Shell = GoOn
interrupts Control = Interrupt

-- What a request comes to on a channel. A comm is closed as soon as it is opened, since the kernel has no targets for
-- one ("Custom Messages").
abbrev pub comes_to : Side → Request → Does
comes_to side asks.KernelInfo = Looks Info
comes_to side (asks.Execute code silent store_history user_expressions allow_stdin stop_on_error) =
    Runs code silent store_history user_expressions
comes_to side (asks.Complete code cursor_pos) = Looks (Completion code cursor_pos)
comes_to side (asks.Inspect code cursor_pos detail_level) = Looks (Inspection code cursor_pos)
comes_to side (asks.IsComplete code) = Looks (Completeness code)
comes_to side asks.History = replies tells.History
comes_to side asks.CommInfo = replies tells.CommInfo
comes_to side (asks.CommOpen comm_id) = publishes (CommClose comm_id)
comes_to side asks.CommMsg = nothing
comes_to side asks.CommClose = nothing
comes_to side (asks.Shutdown restart) = Says None (Some (tells.Shutdown restart)) (End restart)
comes_to side asks.Interrupt = Says None (Some tells.Interrupt) (interrupts side)
comes_to side asks.Unknown = nothing

-- whether a message is heard on a channel
abbrev pub is_heard : Side → Heard → Bool
is_heard side Everywhere = true
is_heard Shell OnShell = true
is_heard Control OnShell = false
is_heard side Nowhere = false

-- whether a type of message has a meaning on a channel
abbrev pub has_meaning : Side → MessageType → Bool
has_meaning side kind = is_heard side (row_of kind).heard

-- What a message of a known type asks on a channel, by its content. If the type has no meaning there, the content isn't
-- read.
abbrev pub asked_by : Side → MessageType → List ℕ → Result Request Refusal
asked_by side kind content = if has_meaning side kind then known_request kind content else Ok asks.Unknown

-- What a message of a type asks on a channel, by its content. If the type is unknown, the content isn't read.
abbrev pub asked_of : Side → Option MessageType → List ℕ → Result Request Refusal
asked_of side None content = Ok asks.Unknown
asked_of side (Some kind) content = asked_by side kind content

-- what a message comes to whose content is refused, by its type
abbrev pub refused : Option MessageType → Refusal → Does
refused None refusal = nothing
refused (Some kind) refusal = Refuses kind refusal_name (refusal_value refusal)

-- what a message of a type comes to on a channel, by what it asks
abbrev pub comes_by : Side → Option MessageType → Result Request Refusal → Does
comes_by side kind (Ok request) = comes_to side request
comes_by side kind (Err refusal) = refused kind refusal

-- What a message comes to on a channel, by its type's name and its content.
abbrev pub comes_of : Side → List ℕ → List ℕ → Does
comes_of side msg_type content =
    comes_by side (message_type msg_type) (asked_of side (message_type msg_type) content)

-- what a message comes to on a channel
abbrev pub message_comes : Side → Envelope → Does
message_comes side request = comes_of side request.msg_type request.content

-- whether nothing is published of what a message comes to, which is so of a silent cell alone
abbrev pub is_silent : Does → Bool
is_silent (Says publication reply order) = false
is_silent (Looks look) = false
is_silent (Runs code silent counts expressions) = silent
is_silent (Refuses kind ename evalue) = false
is_silent Unread = false

-- what a message comes to was read, or no memory was left for that
abbrev pub IsRead : Does → Does → Type 0
IsRead does due = (does ≡ due) ⊎ (does ≡ Unread)
