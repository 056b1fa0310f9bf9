-- What a source of message ids and dates stands for. The id of each message has to be another one ('Messaging in
-- Jupyter' 5.3, "General Message Format").
use Rattle.std.specs.Prelude.{◌≡◌, ◌<◌, ◌^◌, ◌++◌, ℕ, List, Bool, decimal}
use Rattle.std.proofs.lemmas.Fmt.{decimal_injective}
use Rattle.std.proofs.lemmas.List.{append_cancel_left}

-- what no call changes of a stamp: the text of its session, and the label with which its ids are made
pub record StampMeaning : Type 0 where
  pub session : List ℕ
  pub label : List ℕ

-- What is known of a stamp: what no call changes of it, by that the id of each number, and whether a text may be a date
-- of it.
pub record Stamping (Self : Type 0) : Type 0 where
  pub meaning : Self → StampMeaning
  pub id_text : StampMeaning → ℕ → List ℕ
  pub is_date : StampMeaning → List ℕ → Bool

-- the ids of one stamp differ: if two numbers below 2^64 have the same id, they are the same number
abbrev pub IdsDiffer : (StampMeaning → ℕ → List ℕ) → Type 0
IdsDiffer id_text = (m : StampMeaning) (i j : ℕ) → i < 2 ^ 64 → j < 2 ^ 64 → id_text m i ≡ id_text m j → i ≡ j

-- ids that are the label and then the number in decimal digits
abbrev pub numbered : StampMeaning → ℕ → List ℕ
numbered m n = m.label ++ decimal n

-- such ids differ
pub numbered-differ : IdsDiffer numbered
numbered-differ m i j below_i below_j same =
    decimal_injective i j below_i below_j (append_cancel_left m.label (decimal i) (decimal j) same)
