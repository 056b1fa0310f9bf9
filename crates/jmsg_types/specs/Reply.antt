-- The contents of replies ('Messaging in Jupyter' 5.3, "Messages on the shell (ROUTER/DEALER) channel" and "Messages on
-- the control (ROUTER/DEALER) channel").
use Rattle.std.specs.Prelude.{ℕ, List, [], ◌∷◌, Option, is_some, codes}
use Rattle.std.specs.Option.{option_map_or}
use Rattle.serde_json.specs.Data.{Data, boolean, number, unsigned, string, array, object, no_items, Members, member}
use Rattle.serde_json.specs.Data.{no_members, put}
use Rattle.jmsg_types.specs.Content.{empty_data, error_data, plain_data, texts_data, traceback_data}
use Rattle.jmsg_types.specs.declared.reply.Reply.{Reply}
use Rattle.jmsg_types.specs.declared.reply.Reply.TheVariants as tells
use Rattle.jmsg_types.specs.declared.reply.Shown.{Shown}
use Rattle.jmsg_types.specs.declared.reply.Shown.TheVariants as shows
use Rattle.jmsg_types.specs.declared.reply.Verdict.{Verdict}
use Rattle.jmsg_types.specs.declared.reply.Verdict.TheVariants.{Complete, Incomplete, Invalid}

-- the language of a kernel, as its info tells it ("Kernel info")
abbrev pub language_data : List ℕ → List ℕ → List ℕ → List ℕ → Data
language_data file_extension mimetype name version = object
    (member (codes "file_extension") (string file_extension)
    (member (codes "mimetype") (string mimetype)
    (member (codes "name") (string name)
    (member (codes "version") (string version) no_members))))

-- what a user expression came to: a result as a display shows it, or an error ("Execution results")
abbrev pub shown_data : Shown → Data
shown_data (shows.Text text) = object
    (member (codes "data") (plain_data text)
    (member (codes "metadata") empty_data
    (member (codes "status") (string (codes "ok")) no_members)))
shown_data (shows.Fault ename evalue) = error_data ename evalue

-- members to which was added what each user expression came to, by its name; if a name comes twice the last one counts
abbrev pub values_members : List (List ℕ × Shown) → Members → Members
values_members [] found = found
values_members (value ∷ values) found = values_members values (put value.0 (shown_data value.1) found)

-- Whether a code is whole. If it isn't, the indent of its next line is told, too, which is empty here ("Code
-- completeness").
abbrev pub verdict_data : Verdict → Data
verdict_data Complete = object (member (codes "status") (string (codes "complete")) no_members)
verdict_data Incomplete = object
    (member (codes "indent") (string [])
    (member (codes "status") (string (codes "incomplete")) no_members))
verdict_data Invalid = object (member (codes "status") (string (codes "invalid")) no_members)

-- what a kernel tells of itself, with its banner and its language: its name and version, and the protocol's version
-- ("Kernel info")
abbrev pub kernel_info_data : List ℕ → Data → Data
kernel_info_data banner language = object
    (member (codes "banner") (string banner)
    (member (codes "help_links") (array no_items)
    (member (codes "implementation") (string (codes "jkernel"))
    (member (codes "implementation_version") (string (codes "1.0"))
    (member (codes "language_info") language
    (member (codes "protocol_version") (string (codes "5.3"))
    (member (codes "status") (string (codes "ok")) no_members)))))))

-- the reply of a cell that ran to its end, with what the user expressions came to ("Execution results")
abbrev pub execute_ok_data : ℕ → Data → Data
execute_ok_data count values = object
    (member (codes "execution_count") (number (unsigned count))
    (member (codes "payload") (array no_items)
    (member (codes "status") (string (codes "ok"))
    (member (codes "user_expressions") values no_members))))

-- the reply of a cell that failed ("Execution results")
abbrev pub execute_error_data : List ℕ → List ℕ → ℕ → Data
execute_error_data ename evalue count = object
    (member (codes "ename") (string ename)
    (member (codes "evalue") (string evalue)
    (member (codes "execution_count") (number (unsigned count))
    (member (codes "status") (string (codes "error"))
    (member (codes "traceback") (traceback_data ename evalue) no_members)))))

-- how the word between two places may go on ("Completion")
abbrev pub complete_data : Data → ℕ → ℕ → Data
complete_data matches start end = object
    (member (codes "cursor_end") (number (unsigned end))
    (member (codes "cursor_start") (number (unsigned start))
    (member (codes "matches") matches
    (member (codes "metadata") empty_data
    (member (codes "status") (string (codes "ok")) no_members)))))

-- what an inspection found ("Introspection")
abbrev pub inspect_data : Option (List ℕ) → Data
inspect_data text = object
    (member (codes "data") (option_map_or plain_data text empty_data)
    (member (codes "found") (boolean (is_some text))
    (member (codes "metadata") empty_data
    (member (codes "status") (string (codes "ok")) no_members))))

-- The content of each reply.
abbrev pub reply_data : Reply → Data
reply_data (tells.KernelInfo banner file_extension mimetype name version) =
    kernel_info_data banner (language_data file_extension mimetype name version)
reply_data (tells.ExecuteOk count values) = execute_ok_data count (object (values_members values no_members))
reply_data (tells.ExecuteError ename evalue count) = execute_error_data ename evalue count
reply_data (tells.Error ename evalue) = error_data ename evalue
reply_data (tells.Complete matches start end) = complete_data (texts_data matches) start end
reply_data (tells.Inspect text) = inspect_data text
reply_data (tells.IsComplete verdict) = verdict_data verdict
reply_data tells.History = object
    (member (codes "history") (array no_items)
    (member (codes "status") (string (codes "ok")) no_members))
reply_data tells.CommInfo = object
    (member (codes "comms") empty_data
    (member (codes "status") (string (codes "ok")) no_members))
reply_data (tells.Shutdown restart) = object
    (member (codes "restart") (boolean restart)
    (member (codes "status") (string (codes "ok")) no_members))
reply_data tells.Interrupt = object (member (codes "status") (string (codes "ok")) no_members)
