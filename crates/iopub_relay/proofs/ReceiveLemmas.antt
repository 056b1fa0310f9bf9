-- A message comes to one subscriber after the other.
use Rattle.std.proofs.Common.{◌≡◌, ℕ, zero, suc, ◌+◌, ◌<◌, ◌≤◌, List, [], ◌∷◌, ◌++◌, length, get_or}
use Rattle.std.proofs.Common.{refl, sym, ap, subst, ◌∙◌, arith, append_assoc, length-append, length-set}
use Rattle.std.proofs.lemmas.List.{append-nil}
use Rattle.iopub_relay.proofs.RowLemmas.{set_here}
use Rattle.std.specs.List.{slice_set}
use Rattle.zmtp_wire.specs.Device.{Outflow}
use Rattle.iopub_relay.specs.declared.subscriber.Subscriber.{Subscriber}
use Rattle.iopub_relay.specs.Counts.{holding_of}
use Rattle.iopub_relay.specs.Topics.{matches}
use Rattle.iopub_relay.specs.Rows.{AreAbove, AreRising}
use Rattle.iopub_relay.specs.Table.{Receives, AllReceive}
use Rattle.iopub_relay.proofs.ServeLemmas.{same_by}

module _ {Writer : Type 0} (outflow : Writer → Outflow) (frames : List (List ℕ)) where
  -- The first rows have heard a message, and the others haven't yet.
  pub record ReceivedSoFar (old now : List (Subscriber Writer)) (place : ℕ) : Type 0 where
    pub before : List (Subscriber Writer)
    pub heard : List (Subscriber Writer)
    pub rest : List (Subscriber Writer)
    pub was : old ≡ before ++ rest
    pub is : now ≡ heard ++ rest
    pub at : length heard ≡ place
    pub hear : AllReceive outflow frames before heard
    pub long : length now ≡ length old

  receive_more : (before heard : List (Subscriber Writer)) (old new : Subscriber Writer)
      → AllReceive outflow frames before heard → Receives outflow frames old new
      → AllReceive outflow frames (before ++ old ∷ []) (heard ++ new ∷ [])
  receive_more [] [] old new all one = (one, tt)
  receive_more [] (first ∷ heard) old new all one = absurd all
  receive_more (first ∷ before) [] old new all one = absurd all
  receive_more (first ∷ before) (other ∷ heard) old new all one = (all.0, receive_more before heard old new all.1 one)

  -- none has heard it yet
  pub received_none : (old : List (Subscriber Writer)) → ReceivedSoFar old old 0
  received_none old = record {
    before = [];
    heard = [];
    rest = old;
    was = refl;
    is = refl;
    at = refl;
    hear = tt;
    long = refl;
  }

  rest_at : (heard rest : List (Subscriber Writer)) (place : ℕ) (row : Subscriber Writer)
      → length heard ≡ place → place < length (heard ++ rest) → row ≡ get_or (heard ++ rest) place row
      → (others : List (Subscriber Writer)) × (rest ≡ row ∷ others)
  rest_at [] [] place row at within is = absurd (omega (arith, within))
  rest_at [] (first ∷ others) zero row at within is = (others, ap (λ (one : Subscriber Writer). one ∷ others) (sym is))
  rest_at [] (first ∷ others) (suc place) row at within is = absurd (omega (arith, at))
  rest_at (first ∷ heard) rest zero row at within is = absurd (omega (arith, at))
  rest_at (first ∷ heard) rest (suc place) row at within is =
      rest_at heard rest place row (omega (arith, at)) (omega (arith, within)) is

  -- one more has heard it
  pub received_more : (old now new : List (Subscriber Writer)) (place : ℕ) (row one : Subscriber Writer)
      → ReceivedSoFar old now place → place < length now → row ≡ get_or now place row → Receives outflow frames row one
      → new ≡ slice_set now place one → ReceivedSoFar old new (place + 1)
  received_more old now new place row one so_far within is hears is_new =
      let within_both : place < length (so_far.heard ++ so_far.rest) =
      subst (λ (all : List (Subscriber Writer)). place < length all) so_far.is within in
      let (others, split) = rest_at so_far.heard so_far.rest place row so_far.at within_both
      (is ∙ ap (λ (all : List (Subscriber Writer)). get_or all place row) so_far.is) in
      let many : length (so_far.heard ++ one ∷ []) ≡ length so_far.heard + 1 =
      length-append so_far.heard (one ∷ []) in
      let stood = so_far.at in
      record {
        before = so_far.before ++ row ∷ [];
        heard = so_far.heard ++ one ∷ [];
        rest = others;
        was = so_far.was ∙ ap (λ (all : List (Subscriber Writer)). so_far.before ++ all) split
            ∙ sym (append_assoc so_far.before (row ∷ []) others);
        is = is_new ∙ ap (λ (all : List (Subscriber Writer)). slice_set all place one)
            (so_far.is ∙ ap (λ (all : List (Subscriber Writer)). so_far.heard ++ all) split)
            ∙ ap (λ (n : ℕ). slice_set (so_far.heard ++ row ∷ others) n one) (sym so_far.at)
            ∙ set_here so_far.heard others row one ∙ sym (append_assoc so_far.heard (one ∷ []) others);
        at = omega (arith, many, stood);
        hear = receive_more so_far.before so_far.heard row one so_far.hear hears;
        long = ap (λ (all : List (Subscriber Writer)). length all) is_new ∙ length-set now place one ∙ so_far.long;
      }

  all_by : (old now before heard rest : List (Subscriber Writer)) (place : ℕ) → old ≡ before ++ rest
      → now ≡ heard ++ rest → length heard ≡ place → AllReceive outflow frames before heard → length now ≤ place
      → AllReceive outflow frames old now
  all_by old now before heard [] place was is at hear past =
      subst (λ (all : List (Subscriber Writer)). AllReceive outflow frames all now) (sym (was ∙ append-nil before))
      (subst (λ (all : List (Subscriber Writer)). AllReceive outflow frames before all)
      (sym (is ∙ append-nil heard)) hear)
  all_by old now before heard (row ∷ rest) place was is at hear past =
      let many : length now ≡ length heard + suc (length rest) =
      ap (λ (all : List (Subscriber Writer)). length all) is ∙ length-append heard (row ∷ rest) in
      absurd (omega (arith, many, at, past))

  -- all have heard it
  pub received_all : (old now : List (Subscriber Writer)) (place : ℕ) → ReceivedSoFar old now place → length now ≤ place
      → AllReceive outflow frames old now
  received_all old now place so_far past =
      all_by old now so_far.before so_far.heard so_far.rest place so_far.was so_far.is so_far.at so_far.hear past

  above_received : (id : ℕ) (olds news : List (Subscriber Writer)) → AllReceive outflow frames olds news
      → AreAbove id olds
      → AreAbove id news
  above_received id [] [] hear above = tt
  above_received id [] (new ∷ news) hear above = absurd hear
  above_received id (old ∷ olds) [] hear above = absurd hear
  above_received id (old ∷ olds) (new ∷ news) hear above = (
    subst (λ (other : ℕ). id < other)
        (sym (same_by outflow old.standing (matches (holding_of old.topics) frames) frames old new hear.0)) above.0,
    above_received id olds news hear.1 above.1,
  )

  -- the ids rise as they did
  pub rising_received : (olds news : List (Subscriber Writer)) → AllReceive outflow frames olds news → AreRising olds
      → AreRising news
  rising_received [] [] hear rising = tt
  rising_received [] (new ∷ news) hear rising = absurd hear
  rising_received (old ∷ olds) [] hear rising = absurd hear
  rising_received (old ∷ olds) (new ∷ news) hear rising = (
    subst (λ (id : ℕ). AreAbove id news)
        (sym (same_by outflow old.standing (matches (holding_of old.topics) frames) frames old new hear.0))
        (above_received old.id olds news hear.1 rising.0),
    rising_received olds news hear.1 rising.1,
  )
