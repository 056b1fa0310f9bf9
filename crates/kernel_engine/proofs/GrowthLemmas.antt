-- Publications that are published one after the other.
use Rattle.std.proofs.Common.{arith, ◌≡◌, ℕ, suc, ◌+◌, List, [], ◌∷◌, ◌++◌, length, map, Bool, true, false, Option}
use Rattle.std.proofs.Common.{sym, ◌∙◌, ap, append_assoc}
use Rattle.std.proofs.lemmas.List.{append-nil, map-append, length-append}
use Rattle.iopub_event.specs.declared.event.Event.{Event}
use Rattle.iopub_queue.specs.Sink.{Sink}
use Rattle.jmsg_envelope.specs.Stamp.{Stamping}
use Rattle.jmsg_types.specs.declared.publication.Publication.{Publication}
use Rattle.kernel_engine.specs.declared.heading.Heading.{Heading}
use Rattle.kernel_engine.specs.declared.publishing.Publishing.{Publishing}
use Rattle.kernel_engine.specs.Block.{Sealing, published, published_all}
use Rattle.kernel_engine.specs.Growth.{PutsUnder, sealing_of, item_of, unless_silent}

-- what is published of two lists is what is published of the one, and then of the other with the numbers behind it
pub published_all_append : (sealing : Sealing) (heading : Heading) (number : ℕ) (xs ys : List Publication)
    → published_all sealing heading number (xs ++ ys)
    ≡ published_all sealing heading number xs ++ published_all sealing heading (number + length xs) ys
published_all_append sealing heading number [] ys =
    let same : number ≡ number + 0 = omega arith in ap (λ n. published_all sealing heading n ys) same
published_all_append sealing heading number (x ∷ xs) ys =
    let same : number + 1 + length xs ≡ number + suc (length xs) = omega arith in
    ap (λ l. published sealing heading number x ∷ l)
    (published_all_append sealing heading (number + 1) xs ys
    ∙ ap (λ n. published_all sealing heading (number + 1) xs ++ published_all sealing heading n ys) same)

module _ {P S W : Type 0} (sink : Sink P (Event W))
    (stamp : Stamping S) (heading : Heading) where
  -- nothing is published of nothing
  pub puts_none : ((a : P) → sink.is_same a a) → (old : Publishing P S)
      → PutsUnder sink stamp heading old old []
  puts_none itself old = record {
    items = sym (append-nil (sink.items old.sink));
    rest = let same : old.next ≡ old.next + 0 = omega arith in
        ap (λ n. record old { sink = old.sink; next = n }) same;
    same = itself old.sink;
    few = λ few. few;
  }

  -- what is published after what was published
  pub puts_join : ((a b c : P) → sink.is_same a b → sink.is_same b c → sink.is_same a c)
      → (old mid new : Publishing P S)
      (xs ys : List Publication) → PutsUnder sink stamp heading old mid xs
      → PutsUnder sink stamp heading mid new ys
      → PutsUnder sink stamp heading old new (xs ++ ys)
  puts_join on old mid new xs ys first second =
      let sealing = sealing_of stamp old in
      let front : List (Option (Event W)) = map item_of (published_all sealing heading old.next xs) in
      let behind : List (Option (Event W)) =
      map item_of (published_all sealing heading (old.next + length xs) ys) in
      let later : map item_of (published_all (sealing_of stamp mid) heading mid.next ys) ≡ behind =
      ap (λ (p : Publishing P S). map item_of (published_all (sealing_of stamp p) heading p.next ys))
      first.rest in
      let both : map item_of (published_all sealing heading old.next (xs ++ ys)) ≡ front ++ behind =
      ap (map item_of) (published_all_append sealing heading old.next xs ys) ∙ map-append item_of _ _ in
      let long = length-append xs ys in
      let number : mid.next ≡ old.next + length xs = ap (λ (p : Publishing P S). p.next) first.rest in
      let next : mid.next + length ys ≡ old.next + length (xs ++ ys) = omega (arith, long, number) in
      record {
        items = second.items ∙ ap (λ l. l ++ map item_of (published_all (sealing_of stamp mid) heading
            mid.next ys)) first.items ∙ append_assoc (sink.items old.sink) front _
            ∙ ap (λ l. sink.items old.sink ++ (front ++ l)) later ∙ ap (λ l. sink.items old.sink ++ l) (sym both);
        rest = second.rest ∙ ap (λ (p : Publishing P S). record p { sink = new.sink; next = mid.next + length ys })
            first.rest ∙ ap (λ n. record old { sink = new.sink; next = n }) next;
        same = on old.sink mid.sink new.sink first.same second.same;
        few = λ few. second.few (first.few few);
      }

  -- the same where nothing of a silent cell is published
  pub puts_told : ((a b c : P) → sink.is_same a b → sink.is_same b c → sink.is_same a c) → (silent : Bool)
      (old mid new : Publishing P S) (xs ys : List Publication)
      → PutsUnder sink stamp heading old mid (unless_silent silent xs)
      → PutsUnder sink stamp heading mid new (unless_silent silent ys)
      → PutsUnder sink stamp heading old new (unless_silent silent (xs ++ ys))
  puts_told on true old mid new xs ys first second = puts_join on old mid new [] [] first second
  puts_told on false old mid new xs ys first second = puts_join on old mid new xs ys first second
