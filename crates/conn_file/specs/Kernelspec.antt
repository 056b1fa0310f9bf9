-- The kernelspec ('Jupyter Client', "Kernel specs").
use Rattle.std.specs.Prelude.{ℕ, List, Option, option_and_then, codes}
use Rattle.serde_json.specs.Data.{Data, string, array, item, no_items}
use Rattle.serde_json.specs.Find.{get}
use Rattle.serde_json.specs.Read.{read}

-- the words by which a kernelspec has a server start the kernel, as JSON
abbrev pub started_by : List ℕ → Option Data
started_by text = option_and_then (get (codes "argv")) (read text)

-- The words by which a program of this name is started: the program, its command, and a mark. In place of the mark the
-- server writes the path of the connection file.
abbrev pub kernel_words : List ℕ → Data
kernel_words name = array
    (item (string name)
    (item (string (codes "serve"))
    (item (string (codes "-f"))
    (item (string (codes "{connection_file}")) no_items))))
