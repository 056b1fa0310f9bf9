-- What a sink is to those who publish to it.
use Rattle.std.specs.Prelude.{◌≡◌, ◌↔◌, List, map, Option, Some}
use Rattle.iopub_queue.specs.Values.{Publishing}

-- What is known of a sink: what was published, whether it may refuse, and which value is the same sink later.
pub record Sink (Self Item : Type 0) : Type 1 where
  -- the list published so far, in its order. `None` is a close
  pub items : Self → List (Option Item)
  -- whether it may refuse an item
  pub may_refuse : Self → Type 0
  -- whether the second is the sink that the first was, whatever was published in between
  pub is_same : Self → Self → Type 0

-- The laws of a sink. Each is the same as itself. If a second is the same as a first, and a third as the second, the
-- third is the same as the first. As long as a sink is the same, whether it may refuse doesn't change.
pub record SinkLaws {Self Item : Type 0} (sink : Sink Self Item) : Type 0 where
  pub same_itself : (a : Self) → sink.is_same a a
  pub same_on : (a b c : Self) → sink.is_same a b → sink.is_same b c → sink.is_same a c
  pub same_may_refuse : (a b : Self) → sink.is_same a b → sink.may_refuse a ↔ sink.may_refuse b

-- A list as a sink: all that was published is in it, and it may refuse for want of memory.
abbrev pub list_sink : {T : Type 0} → Sink (List T) T
list_sink = record {
  items = map Some;
  may_refuse = λ list. Unit;
  is_same = λ one other. Unit;
}

-- A publisher as a sink: it never refuses, and stays of its queue and its number.
abbrev pub publisher_sink : {T : Type 0} → Sink (Publishing T) T
publisher_sink = record {
  items = λ publisher. publisher.published;
  may_refuse = λ publisher. ⊥;
  is_same = λ one other. (other.queue ≡ one.queue) × (other.number ≡ one.number);
}
