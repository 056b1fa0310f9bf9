-- The last read brought an octet of what ended it.
use Rattle.std.proofs.Common.{◌≡◌, inl, inr, ℕ, ◌+◌, ◌<◌, ◌≤◌, List, [], ◌∷◌, ◌++◌, length, take, drop, refl, sym}
use Rattle.std.proofs.Common.{◌∙◌, ap, arith, append_assoc, length-append}
use Rattle.std.proofs.lemmas.Bool.{cases_lt}
use Rattle.std.proofs.lemmas.List.{take-append-drop, take-append-le, take_at}
use Rattle.zmtp_wire.specs.declared.traffic.Traffic.{Traffic}
use Rattle.zmtp_wire.specs.Limits.{usual_limits}
use Rattle.zmtp_wire.specs.Grammar.{Spells, Reads, ReadsUpTo, HasNoTraffic}
use Rattle.zmtp_connection.specs.Peer.{BeginsWith}
use Rattle.zmtp_connection.specs.Exchange.{Leg, Source}
use Rattle.zmtp_connection.specs.Steps.{IsPrompt, LastRead}
use Rattle.zmtp_connection.proofs.Legs.{leg_on}

-- the front of two that are the same stands in the one with the shorter back
pub front_inside : (one back front behind : List ℕ) → one ++ back ≡ front ++ behind → length back ≤ length behind
    → (more : List ℕ) × (one ≡ front ++ more)
front_inside one back front behind same short =
    let fits : length front ≤ length one = omega (
      arith,
      ap length same,
      length-append one back,
      length-append front behind,
    ) in
    let begins : take (length front) one ≡ front = sym (take-append-le (length front) one back fits)
    ∙ ap (take (length front)) same ∙ take_at front behind (length front) refl in (
      drop (length front) one,
      sym (take-append-drop (length front) one) ∙ ap (λ o. o ++ drop (length front) one) begins,
    )

-- octets that begin with no whole traffic don't begin with traffic that is read
read_inside : (kept read head more : List ℕ) (front : List Traffic) (last : Traffic) → HasNoTraffic usual_limits kept
    → Reads usual_limits read front → Spells usual_limits head last → kept ≡ (read ++ head) ++ more → ⊥
read_inside kept read head more [] last none nothing spelled is =
    none last head more (is ∙ ap (λ o. (o ++ head) ++ more) nothing) spelled
read_inside kept read head more (first ∷ front) last none (one, others, split, spells, reads) spelled is =
    none first one ((others ++ head) ++ more) (is ∙ ap (λ o. (o ++ head) ++ more) split
    ∙ ap (λ o. o ++ more) (append_assoc one others head) ∙ append_assoc one (others ++ head) more) spells

-- Behind octets that begin with no whole traffic a piece was needed for what is read of both.
pub piece_needed : (kept piece rest : List ℕ) (front : List Traffic) (last : Traffic) → HasNoTraffic usual_limits kept
    → ReadsUpTo usual_limits (kept ++ piece) front rest → (comes : BeginsWith rest last)
    → length comes.behind < length piece
piece_needed kept piece rest front last none (read, is, reads) comes =
    elim (cases_lt (length comes.behind) (length piece)) [
      | inl enough ↦ enough
      | inr short ↦
          let grouped : kept ++ piece ≡ (read ++ comes.front) ++ comes.behind =
          is ∙ ap (λ o. read ++ o) comes.split ∙ sym (append_assoc read comes.front comes.behind) in
          let (more, inside) = front_inside kept piece (read ++ comes.front) comes.behind grouped short in
          absurd (read_inside kept read comes.front more front last none reads comes.spelled inside)
    ]

-- one more read
abbrev pub last_read : (one two three : Source) (front piece : List ℕ)
    → Leg one two front
    → Leg two three piece → two.turns ≡ three.turns + 1 → LastRead one three (front ++ piece)
last_read one two three front piece before read is = record {
  front = front;
  piece = piece;
  split = refl;
  middle = two;
  before = before;
  read = read;
  one = is;
}

-- the last read behind a leg
abbrev pub last_read_on : (one two three : Source) (octets more : List ℕ)
    → Leg one two octets → LastRead two three more
    → LastRead one three (octets ++ more)
last_read_on one two three octets more leg last = record {
  front = octets ++ last.front;
  piece = last.piece;
  split = ap (λ o. octets ++ o) last.split ∙ sym (append_assoc octets last.front last.piece);
  middle = last.middle;
  before = leg_on one two last.middle octets last.front leg last.before;
  read = last.read;
  one = last.one;
}

pub prompt_on : (one two three : Source) (octets more behind : List ℕ)
    → Leg one two octets → IsPrompt two three more behind
    → IsPrompt one three (octets ++ more) behind
prompt_on one two three octets more behind leg prompt = record {
  last = last_read_on one two three octets more leg prompt.last;
  needed = prompt.needed;
}
