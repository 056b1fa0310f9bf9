-- The messages of one request ('Messaging in Jupyter' 5.3, "Kernel status", "Request-Reply" and "The Wire Protocol"):
-- busy, what is published, idle, and the reply.
use Rattle.std.specs.Prelude.{ℕ, ◌+◌, List, [], ◌∷◌, ◌++◌, Option, Some, None, unwrap_or, codes}
use Rattle.serde_json.specs.Written.{compact_text}
use Rattle.jmsg_envelope.specs.Envelope.{sealed}
use Rattle.jmsg_envelope.specs.Header.{header_octets}
use Rattle.jmsg_types.specs.declared.publication.Publication.{Publication}
use Rattle.jmsg_types.specs.declared.publication.Publication.TheVariants.{Status}
use Rattle.jmsg_types.specs.declared.publication.State.TheVariants.{Starting, Busy, Idle}
use Rattle.jmsg_types.specs.declared.reply.Reply.{Reply}
use Rattle.jmsg_types.specs.Publication.{buffers, publication_data, publication_type, topic}
use Rattle.jmsg_types.specs.Reply.{reply_data}
use Rattle.jmsg_types.specs.Request.{reply_type_of}
use Rattle.kernel_engine.specs.declared.heading.Heading.{Heading}
use Rattle.kernel_engine.specs.declared.publishing.Body.{Body}

-- the frames of a message
abbrev pub Message : Type 0
Message = List (List ℕ)

-- what all messages of one engine share: the key, the session, and the id of each number
pub record Sealing : Type 0 where
  pub key : List ℕ
  pub session : List ℕ
  pub id : ℕ → List ℕ

-- an object without members, in JSON
abbrev pub empty_object : List ℕ
empty_object = codes "{}"

-- the message of this number and type with this body, sealed after a prefix
unfoldable pub message : Sealing → Heading → List (List ℕ) → ℕ → List ℕ → Body → Message
message sealing heading prefix number msg_type body =
    sealed sealing.key prefix (record {
      header = header_octets sealing.session (sealing.id number) heading.date msg_type;
      parent = heading.parent;
      metadata = empty_object;
      content = body.content;
      buffers = body.buffers;
    })

-- a publication as a message, whose prefix is the publication's topic
abbrev pub published : Sealing → Heading → ℕ → Publication → Message
published sealing heading number publication =
    message sealing heading (topic publication ∷ []) number (publication_type publication)
    (record { content = compact_text (publication_data publication); buffers = buffers publication })

-- publications one after the other, with rising numbers
abbrev pub published_all : Sealing → Heading → ℕ → List Publication → List Message
published_all sealing heading number [] = []
published_all sealing heading number (publication ∷ publications) =
    published sealing heading number publication ∷ published_all sealing heading (number + 1) publications

-- the message that says that the kernel is busy, with the first number of the block
abbrev pub busy : Sealing → Heading → ℕ → Message
busy sealing heading number = published sealing heading number (Status Busy)

-- the message that says that the kernel is idle, with the second number of the block
abbrev pub idle : Sealing → Heading → ℕ → Message
idle sealing heading number = published sealing heading (number + 1) (Status Idle)

-- a block without its idle: busy, and the publications, whose numbers follow that of idle
abbrev pub opened_block : Sealing → Heading → ℕ → List Publication → List Message
opened_block sealing heading number publications =
    busy sealing heading number ∷ published_all sealing heading (number + 2) publications

-- The block of a request: busy, the publications, idle.
abbrev pub block : Sealing → Heading → ℕ → List Publication → List Message
block sealing heading number publications =
    opened_block sealing heading number publications ++ idle sealing heading number ∷ []

-- the type of the reply to a type of message; if it has no reply, the empty text
abbrev pub reply_name : List ℕ → List ℕ
reply_name msg_type = unwrap_or (reply_type_of msg_type) []

-- A reply to a message of this type, if there is one, sealed after the identities of whoever sent that message. It has
-- the arguments of `message`, with the reply in place of the body.
abbrev pub reply_message : Sealing → Heading → List (List ℕ) → ℕ → List ℕ → Option Reply → Option Message
reply_message sealing heading identities number msg_type None = None
reply_message sealing heading identities number msg_type (Some reply) =
    Some (message sealing heading identities number (reply_name msg_type)
    (record { content = compact_text (reply_data reply); buffers = [] }))

-- the first message that is published: it says that the kernel starts, and no request is its parent
abbrev pub starting : Sealing → List ℕ → Message
starting sealing date = published sealing (record { date = date; parent = empty_object }) 1 (Status Starting)
