-- The writers of subscribers pass on what they keep, one after the other.
use Rattle.std.specs.Prelude.{Bool, true, false, nat_eq, if◌then◌else◌, Option, Some, None}
use Rattle.std.proofs.Common.{◌≡◌, ℕ, zero, suc, ◌+◌, ◌<◌, ◌≤◌, List, [], ◌∷◌, ◌++◌, length, get_or}
use Rattle.std.proofs.Common.{refl, sym, ap, subst, ◌∙◌, arith, append_assoc, length-append, length-set}
use Rattle.std.proofs.lemmas.List.{append-nil}
use Rattle.iopub_relay.proofs.RowLemmas.{set_here}
use Rattle.std.specs.List.{slice_set}
use Rattle.zmtp_wire.specs.Device.{Outflow}
use Rattle.iopub_relay.specs.declared.subscriber.Subscriber.{Subscriber}
use Rattle.iopub_relay.specs.Life.{Life, life}
use Rattle.iopub_relay.specs.Rows.{subscriber_at, AreAbove, AreRising}
use Rattle.iopub_event.specs.declared.event.Event.{Event}
use Rattle.iopub_relay.specs.Table.{IsAlike, AreAlike, LivesAt, Fits}

module _ {Writer : Type 0} (outflow : Writer → Outflow) where
  -- The first rows have passed on what they kept, and the others haven't yet.
  pub record FlushedSoFar (old now : List (Subscriber Writer)) (place : ℕ) : Type 0 where
    pub before : List (Subscriber Writer)
    pub heard : List (Subscriber Writer)
    pub rest : List (Subscriber Writer)
    pub was : old ≡ before ++ rest
    pub is : now ≡ heard ++ rest
    pub at : length heard ≡ place
    pub hear : AreAlike outflow before heard
    pub long : length now ≡ length old

  alike_more : (before heard : List (Subscriber Writer)) (old new : Subscriber Writer)
      → AreAlike outflow before heard → IsAlike outflow old new
      → AreAlike outflow (before ++ old ∷ []) (heard ++ new ∷ [])
  alike_more [] [] old new all one = (one, tt)
  alike_more [] (first ∷ heard) old new all one = absurd all
  alike_more (first ∷ before) [] old new all one = absurd all
  alike_more (first ∷ before) (other ∷ heard) old new all one = (all.0, alike_more before heard old new all.1 one)

  -- none has yet
  pub flushed_none : (old : List (Subscriber Writer)) → FlushedSoFar old old 0
  flushed_none old = record {
    before = [];
    heard = [];
    rest = old;
    was = refl;
    is = refl;
    at = refl;
    hear = tt;
    long = refl;
  }

  rest_at : (heard rest : List (Subscriber Writer)) (place : ℕ) (row : Subscriber Writer)
      → length heard ≡ place → place < length (heard ++ rest) → row ≡ get_or (heard ++ rest) place row
      → (others : List (Subscriber Writer)) × (rest ≡ row ∷ others)
  rest_at [] [] place row at within is = absurd (omega (arith, within))
  rest_at [] (first ∷ others) zero row at within is = (others, ap (λ (one : Subscriber Writer). one ∷ others) (sym is))
  rest_at [] (first ∷ others) (suc place) row at within is = absurd (omega (arith, at))
  rest_at (first ∷ heard) rest zero row at within is = absurd (omega (arith, at))
  rest_at (first ∷ heard) rest (suc place) row at within is =
      rest_at heard rest place row (omega (arith, at)) (omega (arith, within)) is

  -- one more has
  pub flushed_more : (old now new : List (Subscriber Writer)) (place : ℕ) (row one : Subscriber Writer)
      → FlushedSoFar old now place → place < length now → row ≡ get_or now place row → IsAlike outflow row one
      → new ≡ slice_set now place one → FlushedSoFar old new (place + 1)
  flushed_more old now new place row one so_far within is hears is_new =
      let within_both : place < length (so_far.heard ++ so_far.rest) =
      subst (λ (all : List (Subscriber Writer)). place < length all) so_far.is within in
      let (others, split) = rest_at so_far.heard so_far.rest place row so_far.at within_both
      (is ∙ ap (λ (all : List (Subscriber Writer)). get_or all place row) so_far.is) in
      let many : length (so_far.heard ++ one ∷ []) ≡ length so_far.heard + 1 =
      length-append so_far.heard (one ∷ []) in
      let stood = so_far.at in
      record {
        before = so_far.before ++ row ∷ [];
        heard = so_far.heard ++ one ∷ [];
        rest = others;
        was = so_far.was ∙ ap (λ (all : List (Subscriber Writer)). so_far.before ++ all) split
            ∙ sym (append_assoc so_far.before (row ∷ []) others);
        is = is_new ∙ ap (λ (all : List (Subscriber Writer)). slice_set all place one)
            (so_far.is ∙ ap (λ (all : List (Subscriber Writer)). so_far.heard ++ all) split)
            ∙ ap (λ (n : ℕ). slice_set (so_far.heard ++ row ∷ others) n one) (sym so_far.at)
            ∙ set_here so_far.heard others row one ∙ sym (append_assoc so_far.heard (one ∷ []) others);
        at = omega (arith, many, stood);
        hear = alike_more so_far.before so_far.heard row one so_far.hear hears;
        long = ap (λ (all : List (Subscriber Writer)). length all) is_new ∙ length-set now place one ∙ so_far.long;
      }

  all_by : (old now before heard rest : List (Subscriber Writer)) (place : ℕ) → old ≡ before ++ rest
      → now ≡ heard ++ rest → length heard ≡ place → AreAlike outflow before heard → length now ≤ place
      → AreAlike outflow old now
  all_by old now before heard [] place was is at hear past =
      subst (λ (all : List (Subscriber Writer)). AreAlike outflow all now) (sym (was ∙ append-nil before))
      (subst (λ (all : List (Subscriber Writer)). AreAlike outflow before all)
      (sym (is ∙ append-nil heard)) hear)
  all_by old now before heard (row ∷ rest) place was is at hear past =
      let many : length now ≡ length heard + suc (length rest) =
      ap (λ (all : List (Subscriber Writer)). length all) is ∙ length-append heard (row ∷ rest) in
      absurd (omega (arith, many, at, past))

  -- all have
  pub flushed_all : (old now : List (Subscriber Writer)) (place : ℕ) → FlushedSoFar old now place → length now ≤ place
      → AreAlike outflow old now
  flushed_all old now place so_far past =
      all_by old now so_far.before so_far.heard so_far.rest place so_far.was so_far.is so_far.at so_far.hear past

  above_alike : (id : ℕ) (olds news : List (Subscriber Writer)) → AreAlike outflow olds news
      → AreAbove id olds
      → AreAbove id news
  above_alike id [] [] hear above = tt
  above_alike id [] (new ∷ news) hear above = absurd hear
  above_alike id (old ∷ olds) [] hear above = absurd hear
  above_alike id (old ∷ olds) (new ∷ news) hear above = (
    subst (λ (other : ℕ). id < other)
        (sym hear.0.same) above.0,
    above_alike id olds news hear.1 above.1,
  )

  -- the ids rise as they did
  pub rising_alike : (olds news : List (Subscriber Writer)) → AreAlike outflow olds news → AreRising olds
      → AreRising news
  rising_alike [] [] hear rising = tt
  rising_alike [] (new ∷ news) hear rising = absurd hear
  rising_alike (old ∷ olds) [] hear rising = absurd hear
  rising_alike (old ∷ olds) (new ∷ news) hear rising = (
    subst (λ (id : ℕ). AreAbove id news)
        (sym hear.0.same)
        (above_alike old.id olds news hear.1 rising.0),
    rising_alike olds news hear.1 rising.1,
  )

  -- a subscriber at an id is as it was, or there is none as there was none
  abbrev pub AlikeAt : Option (Subscriber Writer) → Option (Subscriber Writer) → Type 0
  AlikeAt None None = Unit {0}
  AlikeAt None (Some new) = ⊥
  AlikeAt (Some old) None = ⊥
  AlikeAt (Some old) (Some new) = IsAlike outflow old new

  alike_by : (b c : Bool) (old new : Subscriber Writer) (olds news : Option (Subscriber Writer)) → c ≡ b
      → IsAlike outflow old new → AlikeAt olds news
      → AlikeAt (if b then Some old else olds) (if c then Some new else news)
  alike_by true true old new olds news same alike others = alike
  alike_by true false old new olds news same alike others = let no : false ≡ true = same in cc
  alike_by false true old new olds news same alike others = let no : true ≡ false = same in cc
  alike_by false false old new olds news same alike others = others

  pub alike_at : (id : ℕ) (olds news : List (Subscriber Writer)) → AreAlike outflow olds news
      → AlikeAt (subscriber_at id olds) (subscriber_at id news)
  alike_at id [] [] alike = tt
  alike_at id [] (new ∷ news) alike = absurd alike
  alike_at id (old ∷ olds) [] alike = absurd alike
  alike_at id (old ∷ olds) (new ∷ news) alike =
      alike_by (nat_eq id old.id) (nat_eq id new.id) old new (subscriber_at id olds) (subscriber_at id news)
      (ap (nat_eq id) alike.0.same) alike.0 (alike_at id olds news alike.1)

  lives_alike : (id : ℕ) (old new : Option (Subscriber Writer)) (now : Option (Life Writer)) → AlikeAt old new
      → LivesAt outflow id old now → LivesAt outflow id new now
  lives_alike id None None None alike lives = tt
  lives_alike id None None (Some now) alike lives = absurd lives
  lives_alike id None (Some new) now alike lives = absurd alike
  lives_alike id (Some old) None now alike lives = absurd alike
  lives_alike id (Some old) (Some new) None alike lives = absurd lives
  lives_alike id (Some old) (Some new) (Some now) alike lives = record {
    gets = rw (alike.standing, alike.written) lives.gets;
    topics = λ served topic. rw alike.topics (lives.topics (sym alike.standing ∙ served) topic);
  }

  -- subscribers fit what they fitted
  pub fits_alike : (olds news : List (Subscriber Writer)) (events : List (Event Writer)) → AreAlike outflow olds news
      → Fits outflow olds events → Fits outflow news events
  fits_alike olds news events alike fits id =
      lives_alike id (subscriber_at id olds) (subscriber_at id news) (life id events) (alike_at id olds news alike)
      (fits id)
