-- What is published ('Messaging in Jupyter' 5.3, "Messages on the IOPub (PUB/SUB) channel" and "Custom Messages").
use Rattle.std.specs.Prelude.{ℕ, List, [], Bool, true, false, ◌++◌, codes}
use Rattle.serde_json.specs.Data.{Data, number, unsigned, string, object, member, no_members}
use Rattle.jmsg_types.specs.Content.{empty_data, plain_data, traceback_data}
use Rattle.jmsg_types.specs.declared.publication.Publication.{Publication}
use Rattle.jmsg_types.specs.declared.publication.Publication.TheVariants.{Status, ExecuteInput, Stream, ExecuteResult}
use Rattle.jmsg_types.specs.declared.publication.Publication.TheVariants.{Display, DisplayHtml, Error, CommClose}
use Rattle.jmsg_types.specs.declared.publication.State.{State}
use Rattle.jmsg_types.specs.declared.publication.State.TheVariants.{Starting, Busy, Idle}

-- the word for a state of the kernel ("Kernel status")
abbrev pub state_word : State → List ℕ
state_word Starting = codes "starting"
state_word Busy = codes "busy"
state_word Idle = codes "idle"

-- the name of a stream: standard error if the flag is set, else standard output ("Streams")
abbrev pub stream_name : Bool → List ℕ
stream_name true = codes "stderr"
stream_name false = codes "stdout"

-- The type of the message that carries a publication.
abbrev pub publication_type : Publication → List ℕ
publication_type (Status state) = codes "status"
publication_type (ExecuteInput code count) = codes "execute_input"
publication_type (Stream err text) = codes "stream"
publication_type (ExecuteResult text count) = codes "execute_result"
publication_type (Display text shown) = codes "display_data"
publication_type (DisplayHtml text html) = codes "display_data"
publication_type (Error ename evalue) = codes "error"
publication_type (CommClose comm_id) = codes "comm_close"

-- the topic under which a publication goes out: its message type, and for a stream a dot and the stream's name
abbrev pub topic : Publication → List ℕ
topic (Stream err text) = publication_type (Stream err text) ++ codes "." ++ stream_name err
topic publication = publication_type publication

-- the content that tells of a cell that failed ("Execution errors")
abbrev pub failure_data : List ℕ → List ℕ → Data
failure_data ename evalue = object
    (member (codes "ename") (string ename)
    (member (codes "evalue") (string evalue)
    (member (codes "traceback") (traceback_data ename evalue) no_members)))

-- what a cell shows ("Display data")
abbrev pub display_data : List ℕ → Data
display_data text = object
    (member (codes "data") (plain_data text)
    (member (codes "metadata") empty_data no_members))

-- what a cell shows, as plain text and as a fragment of HTML ("Display data")
abbrev pub display_html_data : List ℕ → List ℕ → Data
display_html_data text html = object
    (member (codes "data") (object
    (member (codes "text/html") (string html)
    (member (codes "text/plain") (string text) no_members)))
    (member (codes "metadata") empty_data no_members))

-- The buffers of each publication: what a cell shows may have some, and nothing else has ("The Wire Protocol").
abbrev pub buffers : Publication → List (List ℕ)
buffers (Status state) = []
buffers (ExecuteInput code count) = []
buffers (Stream err text) = []
buffers (ExecuteResult text count) = []
buffers (Display text shown) = shown
buffers (DisplayHtml text html) = []
buffers (Error ename evalue) = []
buffers (CommClose comm_id) = []

-- The content of each publication.
abbrev pub publication_data : Publication → Data
publication_data (Status state) = object (member (codes "execution_state") (string (state_word state)) no_members)
publication_data (ExecuteInput code count) = object
    (member (codes "code") (string code)
    (member (codes "execution_count") (number (unsigned count)) no_members))
publication_data (Stream err text) = object
    (member (codes "name") (string (stream_name err))
    (member (codes "text") (string text) no_members))
publication_data (ExecuteResult text count) = object
    (member (codes "data") (plain_data text)
    (member (codes "execution_count") (number (unsigned count))
    (member (codes "metadata") empty_data no_members)))
publication_data (Display text shown) = display_data text
publication_data (DisplayHtml text html) = display_html_data text html
publication_data (Error ename evalue) = failure_data ename evalue
publication_data (CommClose comm_id) = object
    (member (codes "comm_id") (string comm_id)
    (member (codes "data") empty_data no_members))
