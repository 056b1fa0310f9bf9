-- The stack of frames, its innermost last, with the innermost first.
use Rattle.std.proofs.Common.{◌≡◌, ℕ, suc, ◌+◌, ◌-◌, List, [], ◌∷◌, ◌++◌, length, Option, Some, None, nat_le, true}
use Rattle.std.proofs.Common.{false}
use Rattle.std.proofs.Common.{refl, sym, ap, ◌∙◌, arith}
use Rattle.std.specs.Bool.{◌==◌}
use Rattle.std.proofs.lemmas.Bool.{ne_eqb, leb-true}
use Rattle.std.specs.Option.{MatchOption, option_to_list}
use Rattle.std.specs.List.{slice_get}
use Rattle.arith_syntax.specs.declared.parser.Frame.{Frame}
use Rattle.arith_syntax.specs.Grammar.{Tree}
use Rattle.arith_syntax.specs.Machine.{begun_of, begun_by, stack_of, turned, rank, room, room_of}
use Rattle.arith_syntax.specs.Machine.{ends_at, outermost, Pops, PopsEnding, IsWholeStack}

-- a frame more is the innermost
pub turned-push : (fs : List Frame) (f : Frame) → turned (fs ++ (f ∷ [])) ≡ f ∷ turned fs
turned-push [] f = refl
turned-push (g ∷ fs) f = ap (λ (bs : List Frame). bs ++ (g ∷ [])) (turned-push fs f)

-- no frame is none
no_frame : (fs : List Frame) → length fs ≡ 0 → turned fs ≡ []
no_frame [] none = refl
no_frame (f ∷ fs) none = absurd (omega arith)

-- the frame that is taken off
pub turned-pop : (old new : List Frame) (popped : Option Frame) (before after : ℕ) → before ≡ length old → after
    ≡ length new
    → old ≡ new ++ option_to_list popped → MatchOption popped ((before ≡ 0) × (after ≡ 0)) (λ _. after + 1 ≡ before)
    → Pops old popped new
turned-pop old new None before after old_count new_count all counts =
    (no_frame old (sym old_count ∙ counts.0), no_frame new (sym new_count ∙ counts.1))
turned-pop old new (Some f) before after old_count new_count all counts = ap turned all ∙ turned-push new f

-- a construct is no end
not_outermost : (fs : List Frame) (f : Frame) (trees : List Tree) (u : Tree)
    → outermost (begun_by (fs ++ (f ∷ [])) trees) u ≡ None
not_outermost [] f trees u = refl
not_outermost (g ∷ fs) f trees u = refl

-- no frame is left, or the statement isn't whole
pub whole_stack : (fs : List Frame) (count : ℕ) → count ≡ length fs → IsWholeStack fs (count == 0)
whole_stack [] count counted = rw counted (λ trees. refl)
whole_stack (f ∷ fs) count counted =
    let none : (count == 0) ≡ false = ne_eqb count 0 (omega arith) in
    rw none (λ trees u. not_outermost (turned fs) f trees u)

-- the last of some frames isn't the first of them
last_behind : (g h : Frame) (fs : List Frame) → slice_get (g ∷ h ∷ fs) (length (g ∷ h ∷ fs) - 1)
    ≡ slice_get (h ∷ fs) (length (h ∷ fs) - 1)
last_behind g h fs =
    let at : length (g ∷ h ∷ fs) - 1 ≡ suc (length (h ∷ fs) - 1) = omega arith in
    ap (λ i. slice_get (g ∷ h ∷ fs) i) {y = suc (length (h ∷ fs) - 1)} at

-- the last frame is the innermost
pub turned-last : (fs : List Frame) (f : Frame) → Some f ≡ slice_get fs (length fs - 1)
    → (inner : List Frame) × (turned fs ≡ f ∷ inner)
turned-last [] f last = absurd (cc)
turned-last (g ∷ []) f last = let same : f ≡ g = cc in ([], ap (λ h. h ∷ []) (sym same))
turned-last (g ∷ h ∷ fs) f last =
    let inner = turned-last (h ∷ fs) f (last ∙ last_behind g h fs) in
    (inner.0 ++ (g ∷ []), ap (λ (bs : List Frame). bs ++ (g ∷ [])) inner.1)

-- its rank decides whether it ends
pub ends_at_last : (weak : ℕ) (fs : List Frame) (f : Frame) (trees : List Tree) → Some f ≡ slice_get fs (length fs - 1)
    → nat_le (rank (begun_of f trees)) weak ≡ ends_at weak (stack_of fs trees)
ends_at_last weak fs f trees last =
    let seen = turned-last fs f last in ap (λ inner. ends_at weak (begun_by inner trees)) (sym seen.1)

-- its room decides whether an assignment fits
pub room_of_last : (fs : List Frame) (f : Frame) (trees : List Tree) → Some f ≡ slice_get fs (length fs - 1)
    → nat_le 13 (room (begun_of f trees)) ≡ nat_le 13 (room_of (stack_of fs trees))
room_of_last fs f trees last =
    let seen = turned-last fs f last in ap (λ inner. nat_le 13 (room_of (begun_by inner trees))) (sym seen.1)

-- a frame that isn't weaker, taken off
pub pops_ending : (weak : ℕ) (old new : List Frame) (popped : Option Frame) → ((trees : List Tree)
    → ends_at weak (stack_of old trees) ≡ true) → Pops old popped new → PopsEnding weak old popped new
pops_ending weak old new None ends pops = (pops.1 ∙ sym pops.0, λ trees. rw pops.0 tt)
pops_ending weak old new (Some f) ends pops = (
  pops,
  λ trees. leb-true (rank (begun_of f trees)) weak
      (ap (λ fs. ends_at weak (begun_by fs trees)) (sym pops) ∙ ends trees),
)
