-- One more event: what it makes of a subscriber's life, of the topics that it holds, and of its feed.
use Rattle.std.proofs.Common.{◌≡◌, ℕ, Bool, true, false, if◌then◌else◌, ◌||◌, List, [], ◌∷◌, ◌++◌, Option}
use Rattle.std.proofs.Common.{Some, None, refl, sym, ap, ◌∙◌, append_assoc, fold}
use Rattle.std.specs.List.{list_any}
use Rattle.std.proofs.lemmas.List.{append-nil}
use Rattle.iopub_event.specs.declared.event.Event.{Event}
use Rattle.iopub_relay.specs.Life.{Life, leaves, comes_with, since_it_left, life_begun, first_life, life}
use Rattle.iopub_relay.specs.Topics.{held, held_after}
use Rattle.iopub_relay.specs.Feed.{brings, feed_behind, feed}

-- whatever comes before what is true
pub or_true : (b : Bool) → (b || true) ≡ true
or_true true = refl
or_true false = refl

or_false : (b : Bool) → (b || false) ≡ b
or_false true = refl
or_false false = refl

any_last : {A : Type 0} (test : A → Bool) (items : List A) (last : A) → test last ≡ true
    → list_any test (items ++ last ∷ []) ≡ true
any_last test [] last passes = ap (λ (b : Bool). b || false) passes
any_last test (item ∷ items) last passes =
    ap (λ (b : Bool). test item || b) (any_last test items last passes) ∙ or_true (test item)

pub any_but_last : {A : Type 0} (test : A → Bool) (items : List A) (last : A) → test last ≡ false
    → list_any test (items ++ last ∷ []) ≡ list_any test items
any_but_last test [] last fails = ap (λ (b : Bool). b || false) fails
any_but_last test (item ∷ items) last fails = ap (λ (b : Bool). test item || b) (any_but_last test items last fails)

module _ {Writer : Type 0} (id : ℕ) where
  -- a life with one more event, or the one that begins with it
  abbrev pub onward : Event Writer → Option (Life Writer) → Option (Life Writer)
  onward event None = life_begun (comes_with id event) [] None
  onward event (Some now) = Some (record { writer = now.writer; events = now.events ++ event ∷ [] })

  since_leaves : (events : List (Event Writer)) (event : Event Writer) → leaves id event ≡ true
      → since_it_left id (events ++ event ∷ []) ≡ []
  since_leaves [] event left = ap (λ (b : Bool). if b then [] else (event ∷ [])) left
  since_leaves (first ∷ events) event left =
      ap (λ (b : Bool). if b then since_it_left id (events ++ event ∷ [])
      else (if leaves id first then events ++ event ∷ [] else first ∷ (events ++ event ∷ [])))
      (any_last (leaves id) events event left) ∙ since_leaves events event left

  stays_by : (some left : Bool) (rest more events : List (Event Writer)) (first event : Event Writer)
      → more ≡ rest ++ event ∷ []
      → (if some then more else (if left then events ++ event ∷ [] else first ∷ (events ++ event ∷ [])))
      ≡ (if some then rest else (if left then events else first ∷ events)) ++ event ∷ []
  stays_by true left rest more events first event same = same
  stays_by false true rest more events first event same = refl
  stays_by false false rest more events first event same = refl

  since_stays : (events : List (Event Writer)) (event : Event Writer) → leaves id event ≡ false
      → since_it_left id (events ++ event ∷ []) ≡ since_it_left id events ++ event ∷ []
  since_stays [] event stays = ap (λ (b : Bool). if b then [] else (event ∷ [])) stays
  since_stays (first ∷ events) event stays =
      ap (λ (b : Bool). if b then since_it_left id (events ++ event ∷ [])
      else (if leaves id first then events ++ event ∷ [] else first ∷ (events ++ event ∷ [])))
      (any_but_last (leaves id) events event stays)
      ∙ stays_by (list_any (leaves id) events) (leaves id first) (since_it_left id events)
      (since_it_left id (events ++ event ∷ [])) events first event (since_stays events event stays)

  begun_more : (came : Option Writer) (events : List (Event Writer)) (event : Event Writer)
      (rest more : Option (Life Writer)) → more ≡ onward event rest
      → life_begun came (events ++ event ∷ []) more ≡ onward event (life_begun came events rest)
  begun_more (Some writer) events event rest more same = refl
  begun_more None events event rest more same = same

  first_life_more : (events : List (Event Writer)) (event : Event Writer)
      → first_life id (events ++ event ∷ []) ≡ onward event (first_life id events)
  first_life_more [] event = refl
  first_life_more (first ∷ events) event =
      begun_more (comes_with id first) events event (first_life id events) (first_life id (events ++ event ∷ []))
      (first_life_more events event)

  -- a subscriber that leaves has no life
  pub life_left : (events : List (Event Writer)) (event : Event Writer) → leaves id event ≡ true
      → life id (events ++ event ∷ []) ≡ None
  life_left events event left = ap (first_life id) (since_leaves events event left)

  -- a life goes on, or begins
  pub life_more : (events : List (Event Writer)) (event : Event Writer) → leaves id event ≡ false
      → life id (events ++ event ∷ []) ≡ onward event (life id events)
  life_more events event stays =
      ap (first_life id) (since_stays events event stays) ∙ first_life_more (since_it_left id events) event

  fold_more : (step : ℕ → Event Writer → ℕ) (start : ℕ) (events : List (Event Writer)) (event : Event Writer)
      → fold step start (events ++ event ∷ []) ≡ step (fold step start events) event
  fold_more step start [] event = refl
  fold_more step start (first ∷ events) event = fold_more step (step start first) events event

  -- the topics held behind one more event
  pub held_more : (events : List (Event Writer)) (event : Event Writer) (topic : List ℕ)
      → held id (events ++ event ∷ []) topic ≡ held_after id topic (held id events topic) event
  held_more events event topic = fold_more (held_after id topic) 0 events event

  feed_behind_more : (before events : List (Event Writer)) (event : Event Writer)
      → feed_behind id before (events ++ event ∷ [])
      ≡ feed_behind id before events ++ brings id (held id (before ++ events)) event
  feed_behind_more before [] event =
      append-nil (brings id (held id before) event)
      ∙ ap (λ (events : List (Event Writer)). brings id (held id events) event) (sym (append-nil before))
  feed_behind_more before (first ∷ events) event =
      ap (λ (rest : List ℕ). brings id (held id before) first ++ rest)
      (feed_behind_more (before ++ first ∷ []) events event
      ∙ ap (λ (all : List (Event Writer)). feed_behind id (before ++ first ∷ []) events
      ++ brings id (held id all) event)
      (append_assoc before (first ∷ []) events))
      ∙ sym (append_assoc (brings id (held id before) first) (feed_behind id (before ++ first ∷ []) events)
      (brings id (held id (before ++ first ∷ events)) event))

  -- the feed behind one more event
  pub feed_more : (events : List (Event Writer)) (event : Event Writer)
      → feed id (events ++ event ∷ []) ≡ feed id events ++ brings id (held id events) event
  feed_more events event = feed_behind_more [] events event

  -- the feed of events and of what stands behind them
  pub feed_on : (before events behind : List (Event Writer))
      → feed_behind id before (events ++ behind)
      ≡ feed_behind id before events ++ feed_behind id (before ++ events) behind
  feed_on before [] behind =
      ap (λ (events : List (Event Writer)). feed_behind id events behind) (sym (append-nil before))
  feed_on before (first ∷ events) behind =
      ap (λ (rest : List ℕ). brings id (held id before) first ++ rest)
      (feed_on (before ++ first ∷ []) events behind
      ∙ ap (λ (all : List (Event Writer)). feed_behind id (before ++ first ∷ []) events ++ feed_behind id all behind)
      (append_assoc before (first ∷ []) events))
      ∙ sym (append_assoc (brings id (held id before) first) (feed_behind id (before ++ first ∷ []) events)
      (feed_behind id (before ++ first ∷ events) behind))
