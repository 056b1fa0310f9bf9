use Rattle.std.proofs.Common.{arith, ◌≡◌, ◌<◌, List, length, take, get_or, ap, subst, ◌∙◌, slice_set}
use Rattle.std.proofs.lemmas.Grind.{common_steps}
use Rattle.std.proofs.lemmas.List.{set-get_or}
use Rattle.iopub_event.specs.declared.event.Event.{Event}
use Rattle.iopub_queue.specs.Entries.{Entry, StartsWith, part_of}
use Rattle.iopub_queue.specs.Values.{Publishing, Taking, Told}
use Rattle.iopub_relay.proofs.ConcludeLemmas.{tells_still, tells_next}
use Rattle.iopub_relay.proofs.concluding.learn_all.Goals as goal

pub loop-place-preserved : goal.loop-place-preserved
loop-place-preserved g c =
    let closed = c.index_mut.result.now in
    let tokens = c.loop-place.tokens.items in
    let told = c.learn.new.self.taker.told in
    let learns = c.learn.ensures.learns in
    let held = c.loop-place.invariant in
    let list = ap (λ (word : Told (Event g.row.W.Denot)). word.list) c.word-word.ensures.word in
    let within : c.loop-place.place < length c.args.tokens.now.items =
    subst (λ (list : List (Publishing (Event g.row.W.Denot))). c.loop-place.place < length list) held.tokens
    (grind (arith, common_steps)) in record {
      tokens = ap (slice_set tokens c.loop-place.place) (c.word-word.ensures.same ∙ c.index_mut.ensures.value)
          ∙ set-get_or tokens c.loop-place.place closed ∙ held.tokens;
      queue = ap (λ (taker : Taking (Event g.row.W.Denot)). taker.queue) learns.rest ∙ held.queue;
      count = ap (λ (taker : Taking (Event g.row.W.Denot)). taker.count) learns.rest ∙ held.count;
      taken = ap (λ (taker : Taking (Event g.row.W.Denot)). taker.taken) learns.rest ∙ held.taken;
      told = tells_next told c.args.tokens.now.items c.loop-place.place closed within
          (c.index_mut.ensures.value ∙ ap (λ (list : List (Publishing (Event g.row.W.Denot))).
          get_or list c.loop-place.place closed) held.tokens) (
            subst (StartsWith told) list learns.word_told,
            subst (λ (entries : List (Entry (Event g.row.W.Denot))). part_of closed.number entries
                ≡ closed.published) list
                c.word-word.ensures.own,
          )
          (tells_still c.loop-place.relay.taker.told told (take c.loop-place.place c.args.tokens.now.items)
          learns.old_told held.told);
    }
