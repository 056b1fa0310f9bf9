-- Parts that contents share ('Messaging in Jupyter' 5.3). A content is an object, with its keys in the order of their
-- octets.
use Rattle.std.specs.Prelude.{ℕ, List, [], ◌∷◌, ◌++◌, map, codes}
use Rattle.serde_json.specs.Data.{Data, string, array, object, no_items, item, Members, member, no_members, put}
use Rattle.serde_json.specs.View.{items_of}

-- members to which these texts were added, each under its key; if a key comes twice the last one counts
abbrev pub with_texts : List (List ℕ × List ℕ) → Members → Members
with_texts [] found = found
with_texts (text ∷ texts) found = with_texts texts (put text.0 (string text.1) found)

-- an object without members
abbrev pub empty_data : Data
empty_data = object no_members

-- a result as a display shows it, in plain text alone ("display_data")
abbrev pub plain_data : List ℕ → Data
plain_data text = object (member (codes "text/plain") (string text) no_members)

-- a list of texts
abbrev pub texts_data : List (List ℕ) → Data
texts_data texts = array (items_of (map string texts))

-- the one line of an error's traceback: its name, a colon, a space, and what is said of it
abbrev pub traceback_line : List ℕ → List ℕ → List ℕ
traceback_line ename evalue = ename ++ (codes ": " ++ evalue)

-- an error's traceback, which is a list of one line ("Request-Reply")
abbrev pub traceback_data : List ℕ → List ℕ → Data
traceback_data ename evalue = array (item (string (traceback_line ename evalue)) no_items)

-- an error as a reply tells it, or as one of a reply's user expressions tells it ("Request-Reply")
abbrev pub error_data : List ℕ → List ℕ → Data
error_data ename evalue = object
    (member (codes "ename") (string ename)
    (member (codes "evalue") (string evalue)
    (member (codes "status") (string (codes "error"))
    (member (codes "traceback") (traceback_data ename evalue) no_members))))
