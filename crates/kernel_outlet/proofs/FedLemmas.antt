-- What a socket accepted of a feed.
use Rattle.std.proofs.Common.{◌≡◌, inl, inr, ℕ, Bool, List, [], ◌∷◌, ◌++◌, sym, ap, ◌∙◌, append_assoc}
use Rattle.std.specs.Prelude.{true, false}
use Rattle.std.proofs.lemmas.List.{append-nil}
use Rattle.iopub_event.specs.declared.event.Event.TheVariants.{Subscribe}
use Rattle.iopub_relay.specs.Life.{Life}
use Rattle.iopub_relay.specs.Feed.{feed, feed_behind}
use Rattle.iopub_relay.specs.Relay.{GetsMarked}
use Rattle.iopub_relay.proofs.LifeLemmas.{feed_on}
use Rattle.iopub_relay.proofs.FeedLemmas.{broken_off}
use Rattle.kernel_outlet.specs.Pipe.{Piping, IsBeginning, piping_outflow}
use Rattle.kernel_outlet.specs.Fed.{GetsSoSocketIsFed}

-- a beginning of a beginning is one of the whole
begins_on : (front middle whole : List ℕ) → IsBeginning front middle → IsBeginning middle whole
    → IsBeginning front whole
begins_on front middle whole one other = record {
  rest = one.rest ++ other.rest;
  split = other.split ∙ ap (λ (xs : List ℕ). xs ++ other.rest) one.split ∙ append_assoc front one.rest other.rest;
}

-- what had been put before, and then a beginning of the feed, is a beginning of that with all of
-- the feed
goes_on : (old front lost all new : List ℕ) → all ≡ front ++ lost → new ≡ old ++ front → old ++ all ≡ new ++ lost
goes_on old front lost all new whole is = rw (whole, is) (sym (append_assoc old front lost))

-- what was put is a beginning of what had been put and the feed
put_begins : (id : ℕ) (life : Life Piping) (pipe : Piping) (failed : Bool)
    → GetsMarked failed (piping_outflow life.writer) (piping_outflow pipe) id life.events
    → IsBeginning pipe.put (life.writer.put ++ feed id life.events)
put_begins id life pipe false gets = record {
  rest = [];
  split = sym gets.added ∙ sym (append-nil pipe.put);
}
put_begins id life pipe true (inl off) =
    let (front, lost, whole, some, puts) =
    broken_off (piping_outflow life.writer) (piping_outflow pipe) id life.events off in
    record { rest = lost; split = goes_on life.writer.put front lost (feed id life.events) pipe.put whole puts.added }
put_begins id life pipe true (inr without) =
    let lost : List ℕ = feed_behind id without.before (Subscribe id without.topic ∷ without.behind) in
    let whole : feed id life.events ≡ feed id without.before ++ lost =
    ap (feed id) without.split ∙ feed_on id [] without.before (Subscribe id without.topic ∷ without.behind) in
    record {
      rest = lost;
      split = goes_on life.writer.put (feed id without.before) lost (feed id life.events) pipe.put whole without.puts.added;
    }

-- what was put is all, if the subscriber hasn't failed
put_whole : (id : ℕ) (life : Life Piping) (pipe : Piping) (failed : Bool)
    → GetsMarked failed (piping_outflow life.writer) (piping_outflow pipe) id life.events → failed ≡ false
    → pipe.put ≡ life.writer.put ++ feed id life.events
put_whole id life pipe false gets served = gets.added
put_whole id life pipe true gets served = let no : true ≡ false = served in cc

pub gets_so_is_fed : GetsSoSocketIsFed
gets_so_is_fed id life pipe failed adds gets = record {
  beginning = begins_on pipe.accepted pipe.put (life.writer.put ++ feed id life.events) adds.beginning
      (put_begins id life pipe failed gets);
  whole = λ served stands none. sym (append-nil pipe.accepted)
      ∙ ap (λ (xs : List ℕ). pipe.accepted ++ xs) (sym none) ∙ sym (adds.whole stands)
      ∙ put_whole id life pipe failed gets served;
}
