-- How a queue is opened, one number after the other.
use Rattle.std.proofs.Common.{◌≡◌, ℕ, suc, ◌+◌, Bool, false, List, [], ◌∷◌, ◌++◌, length, get_or, replicate, refl, sym}
use Rattle.std.proofs.Common.{ap, ◌∙◌, subst, inl, zero}
use Rattle.std.proofs.Common.{arith, add-zero}
use Rattle.std.specs.Prelude.{Option}
use Rattle.std.proofs.lemmas.List.{length-replicate, get_or-replicate}
use Rattle.crossbeam_queue.specs.declared.array_queue.Doing.{Doing}
use Rattle.crossbeam_queue.specs.declared.array_queue.Slotted.{Slotted}
use Rattle.atomic_table.specs.Seated.{TableId}
use Rattle.crossbeam_queue.specs.Passes.{Pass, view, IsSamePass, IsPassOf}
use Rattle.iopub_queue.specs.declared.view.View.{View}
use Rattle.iopub_queue.specs.Entries.{Entry, Agree, part_of, HasNoClose, CloseIsLast}
use Rattle.iopub_queue.specs.Views.{taking, told_of, one_more, newcomer}
use Rattle.iopub_queue.specs.Marks.{IsMarked, Marks, unmarked}
use Rattle.iopub_queue.specs.Values.{Publishing, publishing, taking_by}
use Rattle.iopub_queue.specs.Held.{MayPublish, MayTake}
use Rattle.iopub_queue.specs.Calls.{newcomers, Opens}
use Rattle.iopub_queue.proofs.Tokens.{stays_of}

-- where nothing is marked, as many aren't as there are
pub unmarked_all : (n : ℕ) → unmarked (replicate n false) ≡ n
unmarked_all zero = refl
unmarked_all (suc n) = ap suc (unmarked_all n)

module _ {T : Type 0} where
  -- one more newcomer
  one_newcomer : (queue : TableId) (first more : ℕ)
      → newcomers {T = T} queue first (more + 1)
      ≡ newcomers queue first more ++ record { queue = queue; number = first + more; published = []; told = [] } ∷ []
  one_newcomer queue first zero =
      λ k. record { queue = queue; number = sym (add-zero first) k; published = []; told = [] } ∷ []
  one_newcomer queue first (suc more) =
      let next : suc more + 1 ≡ suc (more + 1) = omega arith in
      let far : first + 1 + more ≡ first + suc more = omega arith in
      ap (newcomers {T = T} queue first) next
      ∙ ap (λ l. record { queue = queue; number = first; published = []; told = [] } ∷ l)
      (one_newcomer queue (first + 1) more
      ∙ ap (λ n. newcomers queue (first + 1) more ++ record {
        queue = queue;
        number = n;
        published = [];
        told = [];
      } ∷ []) far)

  -- the taker with so many numbers
  abbrev pub begun : ℕ → View T
  begun number = record taking { number = number }

  module _ {Q A : Type 0} (line : Slotted (Option (Entry T)) (Doing (Entry T) (View T)) Q A) where
    -- so many publishers were split off
    pub record Opened (seat : Pass (Entry T) (View T)) (publishers : List (Publishing T)) (number : ℕ) : Type 0 where
      pub seat_of : IsPassOf line seat
      pub known : view seat ≡ begun number
      pub fresh : publishers ≡ newcomers seat.table_id 0 number

    -- none yet
    pub opened_none : (seat : Pass (Entry T) (View T)) → IsPassOf line seat → view seat ≡ taking → Opened seat [] 0
    opened_none seat of_line is = record {
      seat_of = of_line;
      known = is;
      fresh = refl;
    }

    -- a publisher that was split off may publish
    pub may_publish : (old seat : Pass (Entry T) (View T)) (publishers : List (Publishing T)) (number : ℕ)
        → Opened old publishers number
        → IsPassOf line seat → view seat ≡ newcomer (view old) → MayPublish line seat number
    may_publish old seat publishers number opened of_line is =
        let new : view seat ≡ newcomer (begun number) = is ∙ ap newcomer opened.known in record {
          holds = record {
            seat_of = of_line;
            role = ap (λ (v : View T). v.role) new;
            named = ap (λ (v : View T). v.number) new;
            own_part = subst (λ (v : View T). part_of number (told_of v) ≡ v.published) (sym new) refl;
          };
          open_list = subst (λ (v : View T). HasNoClose v.published) (sym new) tt;
        }

    -- one more
    pub opened_more : (old new seat : Pass (Entry T) (View T)) (publishers : List (Publishing T)) (number : ℕ)
        → Opened old publishers number
        → IsSamePass old new → view new ≡ one_more (view old) → IsPassOf line seat → view seat ≡ newcomer (view old)
        → Opened new (publishers ++ publishing seat ∷ []) (number + 1)
    opened_more old new seat publishers number opened same is of_line seat_is =
        let newest : view seat ≡ newcomer (begun number) = seat_is ∙ ap newcomer opened.known in
        let counted : number ≡ 0 + number = omega arith in
        let here : seat.table_id ≡ new.table_id = of_line.0 ∙ sym opened.seat_of.0 ∙ sym same.0 in record {
          seat_of = stays_of line old new opened.seat_of same;
          known = is ∙ ap one_more opened.known;
          fresh = ap (λ l. l ++ publishing seat ∷ []) (opened.fresh
              ∙ ap (λ queue. newcomers queue 0 number) (sym same.0))
              ∙ ap (λ p. newcomers new.table_id 0 number ++ p ∷ []) (λ k. record {
                queue = here k;
                number = (ap (λ (v : View T). v.number) newest ∙ counted) k;
                published = (newest k).published;
                told = told_of (newest k);
              })
              ∙ sym (one_newcomer new.table_id 0 number);
        }

    -- the taker of all
    pub may_take : (seat : Pass (Entry T) (View T)) (publishers : List (Publishing T)) (n : ℕ) (marks : List Bool)
        → Opened seat publishers n
        → marks ≡ replicate n false → MayTake line seat marks n
    may_take seat publishers n marks opened is = record {
      seat_of = opened.seat_of;
      role = ap (λ (v : View T). v.role) opened.known;
      marked = subst (λ (v : View T). Marks v.number marks (λ number. part_of number v.taken))
          (sym opened.known) record {
            counted = ap length is ∙ length-replicate n false;
            each = λ number below. subst (λ mark. IsMarked mark (part_of {T = T} number []))
                (sym (ap (λ l. get_or l number false) is ∙ get_or-replicate n number false false below)) tt;
          };
      counted = sym (ap unmarked is ∙ unmarked_all n);
      closes = subst (λ (v : View T). (number : ℕ) → CloseIsLast (part_of number v.taken)) (sym opened.known)
          (λ number. tt);
      agree = subst (λ (v : View T). Agree (told_of v) v.taken) (sym opened.known) (inl ([], refl));
    }

    -- all were opened
    pub opens_all : (seat : Pass (Entry T) (View T)) (publishers : List (Publishing T)) (n : ℕ)
        → Opened seat publishers n
        → Opens n publishers (taking_by seat)
    opens_all seat publishers n opened = record {
      fresh = opened.fresh;
      taking = λ k. record {
        queue = seat.table_id;
        count = (opened.known k).number;
        taken = (opened.known k).taken;
        told = told_of (opened.known k);
      };
    }
