use Rattle.std.proofs.Common.{◌≡◌, ◌++◌, drop, map}
use Rattle.std.specs.Str.Lossy.{utf8_lossy}
use Rattle.sql_cells.proofs.offers.push_keywords.Given as goal

abbrev pub invariant-loop-word : goal.invariant-loop-word
invariant-loop-word l =
    l.texts.items ++ map utf8_lossy (drop l.word-index l.words) ≡ l.fn.texts.items ++ map utf8_lossy l.words
