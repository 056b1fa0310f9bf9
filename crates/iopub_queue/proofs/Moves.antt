-- Each step, split and join keeps the rule of the queue.
use Rattle.std.proofs.Common.{◌≡◌, ◌≢◌, ℕ, zero, suc, ◌+◌, ◌<◌, List, [], ◌∷◌, ◌++◌, length, set, refl, sym, ap, ◌∙◌}
use Rattle.std.proofs.Common.{subst, append_assoc, inl}
use Rattle.std.proofs.Common.{arith, eq-eqb, ne_eqb}
use Rattle.std.specs.Prelude.{Some, None, ◌==◌, if◌then◌else◌, All}
use Rattle.std.proofs.lemmas.Bool.{cond_both, eqb-true, eqb-false}
use Rattle.std.proofs.lemmas.List.Elements.{All-append}
use mathlib.Core.Option.{some, some-injective, some-ne-none}
use lib.ListN.{get_elem?}
use Rattle.atomic_table.proofs.Lists.{at_last}
use Rattle.crossbeam_queue.specs.Fifo.{Pushes, Pops, Forks, Merges, Learns}
use Rattle.iopub_queue.specs.declared.view.Role.TheVariants.{Publishes, Takes, Tells, Spent}
use Rattle.iopub_queue.specs.declared.view.Ended.{Ended}
use Rattle.iopub_queue.specs.declared.view.View.{View}
use Rattle.iopub_queue.specs.Entries.{Entry, StartsWith, part_of, HasNoClose, CloseIsLast}
use Rattle.iopub_queue.specs.Lawful.{Lawful, history, grown, entered, IsOpen}
use Rattle.iopub_queue.specs.Views.{taking, spent, told_of, one_more, newcomer, word_of, learnt, settled_with}
use Rattle.iopub_queue.specs.Rule.{Standing, core_of, HoldsNumber, SettlesWith, Knows, IsHeldBy, Kept}
use Rattle.iopub_queue.specs.Steps.{Published, Took, Sees}
use Rattle.iopub_queue.proofs.Lists.{starts_itself, starts_more, longer_has}
use Rattle.iopub_queue.proofs.Parts.{grown_other}
use Rattle.iopub_queue.proofs.Lawfulness.{lawful_entered, lawful_take}
use Rattle.iopub_queue.proofs.Seats.{Each, each_set, was_there, each_more}
use Rattle.iopub_queue.proofs.Holding.{held_set, held_without, held_apart, held_more, held_there, word_has_none}
use Rattle.iopub_queue.proofs.Holding.{closed_has_no_other, taker_keeps, settled_before, settled_now}

-- a number that was there is what it was
as_before : {A : Type 0} (numbers number : ℕ) (new old : A) → number < numbers
    → (if numbers == number then new else old) ≡ old
as_before numbers number new old below = let apart : numbers ≢ number = λ is. omega arith in
    rw (ne_eqb numbers number apart) refl

module _ {T : Type 0} where
  -- a seat has one role
  not_both : (view : View T) → view.role ≡ Publishes → view.role ≡ Takes → ⊥
  not_both view publishes takes = let both : Publishes ≡ Takes = sym publishes ∙ takes in cc

  -- a seat that only saw something
  only_saw : (standing : Standing T) (waiting : List (Entry T)) (seat : ℕ) (view : View T)
      → StartsWith (history (core_of standing waiting)) view.seen
      → StartsWith (history (core_of standing waiting)) view.heard
      → view.role ≢ Publishes → view.role ≢ Takes → Knows standing waiting seat view
  only_saw standing waiting seat view seen heard no_publisher no_taker = record {
    seen = seen;
    heard = heard;
    publishes = λ is. absurd (no_publisher is);
    takes = λ is. absurd (no_taker is);
  }

  -- at first
  pub begins : Kept {T = T} [] (taking ∷ [])
  begins = record {
    standing = record { numbers = 0; taker = 0; seat = λ _. 0; published = λ _. []; taken = [] };
    lawful = record { parts = λ _ _. refl; closes = λ _ _. tt; others = λ _ _. refl };
    each = first_seat;
    held = λ number below. absurd (omega arith);
  }
    where
      at_first : Standing T
      at_first = record { numbers = 0; taker = 0; seat = λ _. 0; published = λ _. []; taken = [] }

      knows : Knows at_first [] 0 taking
      knows = record {
        seen = ([], refl);
        heard = ([], refl);
        publishes = λ is. absurd (let both : Takes ≡ Publishes = is in cc);
        takes = λ _. record { own = refl; numbers = refl; taken = refl; settled = λ k d within. absurd (omega arith) };
      }

      first_seat : Each (Knows at_first []) (taking ∷ [])
      first_seat zero view at = subst (λ v. Knows at_first [] 0 v) (some-injective taking view at) knows
      first_seat (suc seat) view at = absurd (some-ne-none view (sym at))

  -- what the rule keeps after a push
  abbrev pushed : Standing T → Entry T → Standing T
  pushed standing entry = record standing { published = grown standing.published entry.0 entry.1 }

  -- what another seat knows stays after a push
  knows_pushed : (standing : Standing T) (waiting : List (Entry T)) (entry : Entry T) (seat other : ℕ) (view : View T)
      → standing.seat entry.0 ≡ seat → other ≢ seat → Knows standing waiting other view
      → Knows (pushed standing entry) (waiting ++ entry ∷ []) other view
  knows_pushed standing waiting entry seat other view own apart knows =
      let stays : (number : ℕ) → standing.seat number ≡ other → grown standing.published entry.0 entry.1 number
      ≡ standing.published number =
      λ number of_other. grown_other standing.published entry.0 entry.1 number
      (λ same. apart (sym of_other ∙ ap standing.seat (sym same) ∙ own)) in
      record {
        seen = starts_more standing.taken waiting (entry ∷ []) view.seen knows.seen;
        heard = starts_more standing.taken waiting (entry ∷ []) view.heard knows.heard;
        publishes = λ is. let holds = knows.publishes is in record {
          known = holds.known;
          own = holds.own;
          list = stays view.number holds.own ∙ holds.list;
        };
        takes = λ is. let holds = knows.takes is in record {
          own = holds.own;
          numbers = holds.numbers;
          taken = holds.taken;
          settled = λ k d within. let ended = holds.settled k d within in record {
            known = ended.known;
            own = ended.own;
            list = stays _ (ended.own ∙ sym holds.own) ∙ ended.list;
            told = starts_more standing.taken waiting (entry ∷ []) _ ended.told;
          };
        };
      }

  -- what the pusher knows after a push
  abbrev pusher : View T → Standing T → List (Entry T) → Entry T → View T
  pusher view standing waiting entry = record view {
    published = grown standing.published entry.0 entry.1 entry.0;
    seen = history (entered (core_of standing waiting) entry);
    heard = [];
  }

  knows_own : (standing : Standing T) (waiting : List (Entry T)) (entry : Entry T) (seat : ℕ) (view : View T)
      → view.role ≡ Publishes → entry.0 ≡ view.number → HoldsNumber standing seat view
      → Knows (pushed standing entry) (waiting ++ entry ∷ []) seat (pusher view standing waiting entry)
  knows_own standing waiting entry seat view role number holds = record {
    seen = starts_itself _;
    heard = (_, refl);
    publishes = λ _. record {
      known = holds.known;
      own = holds.own;
      list = ap (grown standing.published entry.0 entry.1) (sym number);
    };
    takes = λ is. absurd (not_both view role is);
  }

  -- the rule after a push
  kept_pushed : (waiting : List (Entry T)) (views : List (View T)) (seat : ℕ) (view : View T) (entry : Entry T)
      → view.role ≡ Publishes → entry.0 ≡ view.number → HasNoClose view.published → (kept : Kept waiting views)
      → get_elem? views seat ≡ some view
      → IsOpen kept.standing.numbers (core_of kept.standing waiting) entry.0
      × Kept (waiting ++ entry ∷ []) (set views seat (pusher view kept.standing waiting entry))
  kept_pushed waiting views seat view entry role number free kept at =
      let standing = kept.standing in let holds = (kept.each seat view at).publishes role in
      let own : standing.seat entry.0 ≡ seat = ap standing.seat number ∙ holds.own in
      let may : IsOpen standing.numbers (core_of standing waiting) entry.0 = record {
        known = subst (λ i. i < standing.numbers) (sym number) holds.known;
        open_list = subst HasNoClose (sym (ap standing.published number ∙ holds.list)) free;
      } in (
        may,
        record {
          standing = pushed standing entry;
          lawful = lawful_entered standing.numbers (core_of standing waiting) entry kept.lawful may;
          each = each_set (Knows (pushed standing entry) (waiting ++ entry ∷ [])) views seat
              (pusher view standing waiting entry)
              (knows_own standing waiting entry seat view role number holds)
              (λ other there apart at_other. knows_pushed standing waiting entry seat other there own apart
              (kept.each other there at_other));
          held = λ number below. held_set views seat view (pusher view standing waiting entry)
              (standing.seat number) number at
              (λ has. has) (kept.held number below);
        },
      )

  -- a push of an entry by the seat of its number
  pub publishes : (capacity seat : ℕ) (view : View T) (entry : Entry T) → view.role ≡ Publishes → entry.0 ≡ view.number
      → HasNoClose view.published
      → Pushes Kept capacity seat view entry (Published view entry)
  publishes capacity seat view (number, Some item) role is free waiting views short kept at =
      let entry : Entry T = (number, Some item) in
      let after = kept_pushed waiting views seat view entry role is free kept at in
      let knows = kept.each seat view at in (
        pusher view kept.standing waiting entry,
        after.1,
        record {
          numbers = kept.standing.numbers;
          state = core_of kept.standing waiting;
          lawful = kept.lawful;
          allowed = after.0;
          own = ap kept.standing.published is ∙ (knows.publishes role).list;
          seen = knows.seen;
          heard = knows.heard;
          after = refl;
        },
      )
  publishes capacity seat view (number, None) role is free waiting views short kept at =
      let entry : Entry T = (number, None) in
      let after = kept_pushed waiting views seat view entry role is free kept at in
      let knows = kept.each seat view at in (
        pusher view kept.standing waiting entry,
        after.1,
        record {
          numbers = kept.standing.numbers;
          state = core_of kept.standing waiting;
          lawful = kept.lawful;
          allowed = after.0;
          own = ap kept.standing.published is ∙ (knows.publishes role).list;
          seen = knows.seen;
          heard = knows.heard;
          after = refl;
        },
      )

  -- what the rule keeps after a pop
  abbrev popped : Standing T → Entry T → Standing T
  popped standing entry = record standing { taken = standing.taken ++ entry ∷ [] }

  -- what is known of the history stays after a pop
  starts_popped : (taken waiting : List (Entry T)) (entry : Entry T) (front : List (Entry T))
      → StartsWith (taken ++ entry ∷ waiting) front
      → StartsWith ((taken ++ entry ∷ []) ++ waiting) front
  starts_popped taken waiting entry front starts =
      subst (λ l. StartsWith l front) (sym (append_assoc taken (entry ∷ []) waiting)) starts

  -- a pop by the taker
  pub takes : (seat : ℕ) (view : View T) → view.role ≡ Takes → Pops Kept seat view (Took view)
  takes seat view role entry waiting views kept at =
      let standing = kept.standing in let knows = kept.each seat view at in let holds = knows.takes role in
      let taker : View T = record view { taken = standing.taken ++ entry ∷ [] } in let new = popped standing entry in (
        taker,
        record {
          standing = new;
          lawful = lawful_take standing.numbers (core_of standing (entry ∷ waiting)) kept.lawful;
          each = each_set (Knows new waiting) views seat taker
              record {
                seen = starts_popped standing.taken waiting entry view.seen knows.seen;
                heard = starts_popped standing.taken waiting entry view.heard knows.heard;
                publishes = λ is. absurd (not_both view is role);
                takes = λ _. record {
                  own = holds.own;
                  numbers = holds.numbers;
                  taken = refl;
                  settled = λ k d within. let ended = holds.settled k d within in record {
                    known = ended.known;
                    own = ended.own;
                    list = ended.list;
                    told = starts_popped standing.taken waiting entry _ ended.told;
                  };
                };
              }
              (λ other there apart at_other. let others = kept.each other there at_other in record {
                seen = starts_popped standing.taken waiting entry there.seen others.seen;
                heard = starts_popped standing.taken waiting entry there.heard others.heard;
                publishes = λ is. let number = others.publishes is in
                    record { known = number.known; own = number.own; list = number.list };
                takes = λ is. absurd (apart ((others.takes is).own ∙ sym holds.own));
              });
          held = λ number below. held_set views seat view taker (standing.seat number) number at (λ has. has)
              (kept.held number below);
        },
        record {
          state = core_of standing (entry ∷ waiting);
          behind = waiting;
          lawful = subst (λ n. Lawful n (core_of standing (entry ∷ waiting))) holds.numbers kept.lawful;
          taken = holds.taken;
          waiting = refl;
          seen = knows.seen;
          heard = knows.heard;
          after = refl;
        },
      )

  -- what the taker learns
  pub sees : (seat : ℕ) (view : View T) → view.role ≡ Takes → Learns Kept seat view (Sees view)
  sees seat view role waiting views kept at =
      let standing = kept.standing in let knows = kept.each seat view at in let holds = knows.takes role in record {
        published = standing.published;
        lawful =
            subst (λ (x : ℕ × List (Entry T)). Lawful x.0 record {
              taken = x.1;
              waiting = waiting;
              published = standing.published;
            })
            (λ k. (holds.numbers k, holds.taken k)) kept.lawful;
        seen = subst (λ l. StartsWith (l ++ waiting) view.seen) holds.taken knows.seen;
        heard = subst (λ l. StartsWith (l ++ waiting) view.heard) holds.taken knows.heard;
        settled = λ k d within. let ended = holds.settled k d within in record {
          known = subst (λ n. _ < n) holds.numbers ended.known;
          list = ended.list;
          told = subst (λ l. StartsWith (l ++ waiting) _) holds.taken ended.told;
        };
      }

  -- what the rule keeps with one more number
  abbrev opened : Standing T → ℕ → Standing T
  opened standing seat = record {
    numbers = standing.numbers + 1;
    taker = standing.taker;
    seat = λ number. if standing.numbers == number then seat else standing.seat number;
    published = λ number. if standing.numbers == number then [] else standing.published number;
    taken = standing.taken;
  }

  lawful_opened : (standing : Standing T) (waiting : List (Entry T)) (seat : ℕ)
      → Lawful standing.numbers (core_of standing waiting)
      → Lawful (standing.numbers + 1) (core_of (opened standing seat) waiting)
  lawful_opened standing waiting seat lawful = record {
    parts = λ number below. cond_both (standing.numbers == number) [] (standing.published number)
        (λ l. part_of number (standing.taken ++ waiting) ≡ l)
        (λ is. let same : standing.numbers ≡ number = eqb-true _ _ is in lawful.others number (omega arith))
        (λ is. lawful.parts number (let apart : standing.numbers ≢ number = eqb-false _ _ is in omega arith));
    closes = λ number below. cond_both (standing.numbers == number) [] (standing.published number) CloseIsLast
        (λ is. tt)
        (λ is. lawful.closes number (let apart : standing.numbers ≢ number = eqb-false _ _ is in omega arith));
    others = λ number above. lawful.others number (omega arith);
  }

  -- what a seat knows stays with one more number
  knows_opened : (standing : Standing T) (waiting : List (Entry T)) (new seat : ℕ) (view : View T) → view.role ≢ Takes
      → Knows standing waiting seat view
      → Knows (opened standing new) waiting seat view
  knows_opened standing waiting new seat view no_taker knows = record {
    seen = knows.seen;
    heard = knows.heard;
    publishes = λ is. let holds = knows.publishes is in
        let known : view.number < standing.numbers = holds.known in record {
          known = omega arith;
          own = as_before standing.numbers view.number new (standing.seat view.number) known ∙ holds.own;
          list = as_before standing.numbers view.number [] (standing.published view.number) known ∙ holds.list;
        };
    takes = λ is. absurd (no_taker is);
  }

  -- one more number is split off the taker
  pub opens : (seat : ℕ) (view : View T) → view.role ≡ Takes → Forks Kept seat view (one_more view) (newcomer view)
  opens seat view role waiting views kept at =
      let standing = kept.standing in let knows = kept.each seat view at in let holds = knows.takes role in
      let others : List (View T) = set views seat (one_more view) in let new : ℕ = length others in record {
        standing = opened standing new;
        lawful = lawful_opened standing waiting new kept.lawful;
        each = each_more (Knows (opened standing new) waiting) others (newcomer view)
            (each_set (Knows (opened standing new) waiting) views seat (one_more view)
            record {
              seen = knows.seen;
              heard = knows.heard;
              publishes = λ is. absurd (not_both view is role);
              takes = λ _. record {
                own = holds.own;
                numbers = ap (λ n. n + 1) holds.numbers;
                taken = holds.taken;
                settled = λ k d within. let ended = holds.settled k d within in record {
                  known = let known = ended.known in omega arith;
                  own = as_before standing.numbers _ new _ ended.known ∙ ended.own;
                  list = as_before standing.numbers _ [] _ ended.known ∙ ended.list;
                  told = ended.told;
                };
              };
            }
            (λ other there apart at_other. knows_opened standing waiting new other there
            (λ is. apart (((kept.each other there at_other).takes is).own ∙ sym holds.own))
            (kept.each other there at_other)))
            record {
              seen = (_, refl);
              heard = (_, refl);
              publishes = λ _. record {
                known = subst (λ n. n < standing.numbers + 1) holds.numbers (omega arith);
                own = rw (eq-eqb standing.numbers view.number holds.numbers) refl;
                list = rw (eq-eqb standing.numbers view.number holds.numbers) refl;
              };
              takes = λ is. absurd (let both : Publishes ≡ Takes = is in cc);
            };
        held = λ number below. cond_both (standing.numbers == number) new (standing.seat number)
            (λ holder. IsHeldBy (others ++ newcomer view ∷ []) holder number)
            (λ is. record {
              view = newcomer view;
              there = at_last others (newcomer view) new refl;
              holds = inl (refl, sym holds.numbers ∙ eqb-true _ _ is);
            })
            (λ is. let apart : standing.numbers ≢ number = eqb-false _ _ is in held_more others (newcomer view)
            (standing.seat number) number
            (held_set views seat view (one_more view) (standing.seat number) number at (taker_keeps view number role)
            (kept.held number (omega arith))));
      }

  -- a word is split off
  pub tells : (seat : ℕ) (view : View T) → Forks Kept seat view view (word_of view)
  tells seat view waiting views kept at =
      let standing = kept.standing in let knows = kept.each seat view at in record {
        standing = standing;
        lawful = kept.lawful;
        each = each_more (Knows standing waiting) (set views seat view) (word_of view)
            (each_set (Knows standing waiting) views seat view knows
            (λ other there apart at_other. kept.each other there at_other))
            (only_saw standing waiting _ (word_of view)
            (longer_has (StartsWith (history (core_of standing waiting))) view.seen view.heard knows.seen knows.heard)
            (_, refl)
            (λ is. let both : Tells ≡ Publishes = is in cc)
            (λ is. let both : Tells ≡ Takes = is in cc));
        held = λ number below. held_more (set views seat view) (word_of view) (standing.seat number) number
            (held_set views seat view view (standing.seat number) number at (λ has. has) (kept.held number below));
      }

  -- a word is taken in
  pub learns : (seat : ℕ) (view : View T) (other : ℕ) (word : View T) → word.role ≡ Tells
      → Merges Kept seat view other word (learnt view word) spent
  learns seat view other word tells waiting views kept at apart at_word =
      let standing = kept.standing in let knows = kept.each seat view at in
      let theirs = kept.each other word (was_there views seat other (learnt view word) word apart at_word) in record {
        standing = standing;
        lawful = kept.lawful;
        each = each_set (Knows standing waiting) (set views seat (learnt view word)) other spent
            (only_saw standing waiting other spent (_, refl) (_, refl)
            (λ is. let both : Spent ≡ Publishes = is in cc) (λ is. let both : Spent ≡ Takes = is in cc))
            (λ third there _ at_third. each_set (Knows standing waiting) views seat (learnt view word)
            record {
              seen = longer_has (StartsWith (history (core_of standing waiting))) view.seen view.heard knows.seen
                  knows.heard;
              heard = longer_has (StartsWith (history (core_of standing waiting))) word.seen word.heard theirs.seen
                  theirs.heard;
              publishes = λ is. let holds = knows.publishes is in
                  record { known = holds.known; own = holds.own; list = holds.list };
              takes = λ is. let holds = knows.takes is in record {
                own = holds.own;
                numbers = holds.numbers;
                taken = holds.taken;
                settled = holds.settled;
              };
            }
            (λ fourth were _ at_fourth. kept.each fourth were at_fourth) third there at_third);
        held = λ number below. held_without (set views seat (learnt view word)) other word spent
            (standing.seat number) number at_word
            (word_has_none word number tells)
            (held_set views seat view (learnt view word) (standing.seat number) number at (λ has. has)
            (kept.held number below));
      }

  -- what the rule keeps after a settling: the number's seat is the taker's
  abbrev handed_over : Standing T → ℕ → Standing T
  handed_over standing number =
      record standing { seat = λ other. if number == other then standing.taker else standing.seat other }

  -- a publisher's seat is taken in
  pub settles : (seat : ℕ) (view : View T) (other : ℕ) (closed : View T) → view.role ≡ Takes → closed.role ≡ Publishes
      → Merges Kept seat view other closed (settled_with view closed) spent
  settles seat view other closed role their_role waiting views kept at apart at_closed =
      let standing = kept.standing in let knows = kept.each seat view at in let holds = knows.takes role in
      let theirs =
      kept.each other closed (was_there views seat other (settled_with view closed) closed apart at_closed) in
      let number = theirs.publishes their_role in let new = handed_over standing closed.number in
      let ended : Ended T =
      record { number = closed.number; published = closed.published; told = told_of closed } in record {
        standing = new;
        lawful = record { parts = kept.lawful.parts; closes = kept.lawful.closes; others = kept.lawful.others };
        each = each_set (Knows new waiting) (set views seat (settled_with view closed)) other spent
            (only_saw new waiting other spent (_, refl) (_, refl)
            (λ is. let both : Spent ≡ Publishes = is in cc) (λ is. let both : Spent ≡ Takes = is in cc))
            (λ third there not_other at_third. each_set (λ at_seat v. at_seat ≢ other → Knows new waiting at_seat v)
            views seat (settled_with view closed)
            (λ _. record {
              seen = knows.seen;
              heard = knows.heard;
              publishes = λ is. absurd (not_both view is role);
              takes = λ _. record {
                own = holds.own;
                numbers = holds.numbers;
                taken = holds.taken;
                settled = All-append (SettlesWith new waiting) view.settled (ended ∷ [])
                    (λ k d within. let old = holds.settled k d within in record {
                      known = old.known;
                      own = cond_both (closed.number == _) standing.taker (standing.seat _) (λ s. s ≡ standing.taker)
                          (λ _. refl) (λ _. old.own);
                      list = old.list;
                      told = old.told;
                    })
                    (only_one (SettlesWith new waiting) ended record {
                      known = number.known;
                      own = rw (eq-eqb closed.number closed.number refl) refl;
                      list = number.list;
                      told = longer_has (StartsWith (history (core_of standing waiting))) closed.seen closed.heard
                          theirs.seen theirs.heard;
                    });
              };
            })
            (λ fourth were not_seat at_fourth not_closed. let known = kept.each fourth were at_fourth in record {
              seen = known.seen;
              heard = known.heard;
              publishes = λ is. let own = known.publishes is in
                  let differs : closed.number ≢ were.number =
                  λ same. not_closed (sym own.own ∙ ap standing.seat (sym same) ∙ number.own) in record {
                    known = own.known;
                    own = rw (ne_eqb closed.number were.number differs) own.own;
                    list = own.list;
                  };
              takes = λ is. absurd (not_seat ((known.takes is).own ∙ sym holds.own));
            }) third there at_third not_other);
        held = λ at_number below. cond_both (closed.number == at_number) standing.taker (standing.seat at_number)
            (λ holder. IsHeldBy (set (set views seat (settled_with view closed)) other spent) holder at_number)
            (λ is. subst (λ (x : ℕ × ℕ). IsHeldBy (set (set views seat (settled_with view closed)) other spent) x.0 x.1)
            (λ k. (holds.own k, eqb-true closed.number at_number is k))
            (held_apart (set views seat (settled_with view closed)) other spent seat closed.number
            (λ same. apart (sym same))
            (held_there views seat view (settled_with view closed) closed.number at (settled_now view closed role))))
            (λ is. held_without (set views seat (settled_with view closed)) other closed spent
            (standing.seat at_number) at_number at_closed
            (closed_has_no_other closed at_number their_role (eqb-false _ _ is))
            (held_set views seat view (settled_with view closed) (standing.seat at_number) at_number at
            (settled_before view closed at_number role) (kept.held at_number below)));
      }
    where
      only_one : {X : Type 0} (P : X → Type 0) (x : X) → P x → All P (x ∷ [])
      only_one P x holds zero d within = holds
      only_one P x holds (suc k) d within = absurd (omega arith)
