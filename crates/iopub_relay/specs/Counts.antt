-- How often topics are held, by the counts and the list that keep it.
use Rattle.std.specs.Prelude.{◌≡◌, ℕ, ◌+◌, List, [], ◌∷◌, map, bytes_eq, count_by, if◌then◌else◌}
use Rattle.std.specs.Global.{Vec}
use Rattle.std.specs.BTreeMap.{BTreeMap}
use Rattle.iopub_relay.specs.declared.topics.Raised.{Raised}
use Rattle.iopub_relay.specs.declared.topics.Raised.TheVariants.{Yes, Full, Missing}
use Rattle.iopub_relay.specs.Topics.{Holding}

-- the number that stands at a topic, or 0
abbrev pub count_at : List (List ℕ × ℕ) → Holding
count_at [] topic = 0
count_at ((key, count) ∷ entries) topic = if bytes_eq topic key then count else count_at entries topic

-- the entries of a map whose keys are octets
abbrev pub entries_of : BTreeMap (Vec ℕ) ℕ → List (List ℕ × ℕ)
entries_of counts = map (λ entry. (entry.0.items, entry.1)) counts.entries

-- the number that a map has at a topic, or 0
abbrev pub counted : BTreeMap (Vec ℕ) ℕ → Holding
counted counts topic = count_at (entries_of counts) topic

-- how often a topic stands in a list
abbrev pub listed : List (List ℕ) → Holding
listed topics topic = count_by (λ key. bytes_eq key topic) topics

-- Topics with how often they are held. A number counts a topic up to the greatest number, and each further time is one
-- place in a list.
pub record Counts : Type 0 where
  pub entries : List (List ℕ × ℕ)
  pub further : List (List ℕ)

-- how often each topic is held
abbrev pub holding_of : Counts → Holding
holding_of counts topic = count_at counts.entries topic + listed counts.further topic

-- the counts after the count of a topic was to be raised: it was, or it stands at the greatest number, or the topic
-- isn't there
abbrev pub Raises : List ℕ → BTreeMap (Vec ℕ) ℕ → BTreeMap (Vec ℕ) ℕ → Raised → Type 0
Raises topic old new Yes =
    (other : List ℕ) → counted new other ≡ (if bytes_eq topic other then counted old other + 1 else counted old other)
Raises topic old new Full = (other : List ℕ) → counted new other ≡ counted old other
Raises topic old new Missing = (new ≡ old) × (counted old topic ≡ 0)
