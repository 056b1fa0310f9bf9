-- A life is there exactly where the last of a subscriber's comings and leavings is a coming.
use Rattle.std.proofs.Common.{◌≡◌, ℕ, Bool, true, false, if◌then◌else◌, ◌||◌, nat_eq, List, [], ◌∷◌, ◌++◌, Option}
use Rattle.std.proofs.Common.{Some, None, refl, sym, ap, ◌∙◌, append_assoc, subst, true≢false}
use Rattle.std.specs.Option.{IfSome, is_some}
use Rattle.std.specs.List.{list_any}
use Rattle.std.proofs.lemmas.Bool.{eqb-true}
use Rattle.std.proofs.lemmas.List.{append-nil}
use Rattle.iopub_event.specs.declared.event.Event.{Event}
use Rattle.iopub_event.specs.declared.event.Event.TheVariants.{Message, Attach, Subscribe, Cancel, Pong, Detach}
use Rattle.iopub_relay.specs.Life.{Life, leaves, comes_with, life_begun, life}
use Rattle.iopub_relay.specs.Laws.{BeganIn, LifeBegan, WhoCameLives, WhoLeftLivesNot}
use Rattle.iopub_relay.proofs.LifeLemmas.{any_but_last, onward, life_left, life_more}
use Rattle.iopub_relay.proofs.RowLemmas.{same_id}

either_not : (one other : Bool) → (one || other) ≡ false → (one ≡ false) × (other ≡ false)
either_not false other none = (refl, none)
either_not true other none = absurd (true≢false none)

module _ {Writer : Type 0} (id : ℕ) where
  -- a life that was found began in these events
  abbrev Began : List (Event Writer) → Option (Life Writer) → Type 0
  Began events found = IfSome found (BeganIn Writer id events)

  came_as : (events : List (Event Writer)) (other : ℕ) (writer : Writer) (same : Bool) → nat_eq id other ≡ same
      → life id events ≡ None
      → Began (events ++ Attach other writer ∷ []) (life_begun (if same then Some writer else None) [] None)
  came_as events other writer false differs none = tt
  came_as events other writer true same none = record {
    before = events;
    split = ap (λ (other : ℕ). events ++ Attach other writer ∷ []) (sym (eqb-true id other same));
    none = none;
    stays = refl;
  }

  came_now : (events : List (Event Writer)) (event : Event Writer) → life id events ≡ None
      → Began (events ++ event ∷ []) (life_begun (comes_with id event) [] None)
  came_now events (Message frames) none = tt
  came_now events (Attach other writer) none = came_as events other writer (nat_eq id other) refl none
  came_now events (Subscribe other topic) none = tt
  came_now events (Cancel other topic) none = tt
  came_now events (Pong other context) none = tt
  came_now events (Detach other) none = tt

  went_on : (events : List (Event Writer)) (event : Event Writer) (found : Option (Life Writer))
      → life id events ≡ found → Began events found → leaves id event ≡ false
      → Began (events ++ event ∷ []) (onward id event found)
  went_on events event None is began stays = came_now events event is
  went_on events event (Some now) is began stays = record {
    before = began.before;
    split = ap (λ (events : List (Event Writer)). events ++ event ∷ []) began.split
        ∙ append_assoc began.before (Attach id now.writer ∷ now.events) (event ∷ []);
    none = began.none;
    stays = any_but_last (leaves id) now.events event stays ∙ began.stays;
  }

  one_more : (events : List (Event Writer)) (event : Event Writer) (left : Bool) → leaves id event ≡ left
      → Began events (life id events) → Began (events ++ event ∷ []) (life id (events ++ event ∷ []))
  one_more events event true leaving began =
      subst (Began (events ++ event ∷ [])) (sym (life_left id events event leaving)) tt
  one_more events event false stays began =
      subst (Began (events ++ event ∷ [])) (sym (life_more id events event stays))
      (went_on events event (life id events) refl began stays)

  all_more : (before events : List (Event Writer)) → Began before (life id before)
      → Began (before ++ events) (life id (before ++ events))
  all_more before [] began =
      subst (λ (all : List (Event Writer)). Began all (life id all)) (sym (append-nil before)) began
  all_more before (event ∷ events) began =
      subst (λ (all : List (Event Writer)). Began all (life id all)) (append_assoc before (event ∷ []) events)
      (all_more (before ++ event ∷ []) events (one_more before event (leaves id event) refl began))

  -- a life goes on where nobody leaves
  lives_on : (found : Option (Life Writer)) (event : Event Writer) → is_some found ≡ true
      → is_some (onward id event found) ≡ true
  lives_on (Some now) event there = refl
  lives_on None event there = absurd (true≢false (sym there))

  comes : (found : Option (Life Writer)) (writer : Writer) → is_some (onward id (Attach id writer) found) ≡ true
  comes (Some now) writer = refl
  comes None writer =
      ap (λ (same : Bool). is_some (life_begun (if same then Some writer else None) [] None)) (same_id id)

  stays_there : (before after : List (Event Writer)) → is_some (life id before) ≡ true
      → list_any (leaves id) after ≡ false → is_some (life id (before ++ after)) ≡ true
  stays_there before [] there stay =
      ap (λ (all : List (Event Writer)). is_some (life id all)) (append-nil before) ∙ there
  stays_there before (event ∷ after) there stay =
      ap (λ (all : List (Event Writer)). is_some (life id all)) (sym (append_assoc before (event ∷ []) after))
      ∙ stays_there (before ++ event ∷ []) after
      (ap is_some (life_more id before event (either_not (leaves id event) (list_any (leaves id) after) stay).0)
      ∙ lives_on (life id before) event there)
      (either_not (leaves id event) (list_any (leaves id) after) stay).1

  -- who comes with none has no life
  no_coming : (came : Option Writer) → is_some came ≡ false
      → life_begun came [] None ≡ None
  no_coming None none = refl
  no_coming (Some writer) none = absurd (true≢false none)

  none_more : (before : List (Event Writer)) (event : Event Writer) (left : Bool) → leaves id event ≡ left
      → life id before ≡ None → is_some (comes_with id event) ≡ false → life id (before ++ event ∷ []) ≡ None
  none_more before event true leaving none apart = life_left id before event leaving
  none_more before event false stays none apart =
      life_more id before event stays ∙ ap (onward id event) none ∙ no_coming (comes_with id event) apart

  stays_away : (before after : List (Event Writer)) → life id before ≡ None
      → list_any (λ (event : Event Writer). is_some (comes_with id event)) after ≡ false
      → life id (before ++ after) ≡ None
  stays_away before [] none apart = ap (life id) (append-nil before) ∙ none
  stays_away before (event ∷ after) none apart =
      let (now, then_on) = either_not (is_some (comes_with id event))
      (list_any (λ (event : Event Writer). is_some (comes_with id event)) after) apart in
      ap (life id) (sym (append_assoc before (event ∷ []) after))
      ∙ stays_away (before ++ event ∷ []) after (none_more before event (leaves id event) refl none now) then_on

-- a life is what stands behind a coming
pub life_began : {Writer : Type 0} → LifeBegan Writer
life_began {Writer} id events = all_more id [] events tt

-- who came lives
pub who_came_lives : {Writer : Type 0} → WhoCameLives Writer
who_came_lives {Writer} id before writer after stay =
    ap (λ (all : List (Event Writer)). is_some (life id all)) (sym (append_assoc before (Attach id writer ∷ []) after))
    ∙ stays_there id (before ++ Attach id writer ∷ []) after
    (ap is_some (life_more id before (Attach id writer) refl) ∙ comes id (life id before) writer) stay

-- who left lives not
pub who_left_lives_not : {Writer : Type 0} → WhoLeftLivesNot Writer
who_left_lives_not {Writer} id before after apart =
    ap (life id) (sym (append_assoc before (Detach id ∷ []) after))
    ∙ stays_away id (before ++ Detach id ∷ []) after (life_left id before (Detach id) (same_id id)) apart
