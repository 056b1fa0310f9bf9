-- The text of a message, frame by frame.
use Rattle.std.proofs.Common.{◌≡◌, ℕ, suc, ◌+◌, ◌<◌, ◌≤◌, nat_lt, Bool, true, false, List, [], ◌∷◌, ◌++◌, length, drop}
use Rattle.std.proofs.Common.{refl, sym, ◌∙◌, ap, arith, append_assoc, add-one, length-drop, length-append, get_or}
use Rattle.std.proofs.lemmas.Bool.{lt-ltb, le-ltb, ltb-true, ltb-false}
use Rattle.std.proofs.Math.Seq.{drop-cons}
use Rattle.std.specs.Global.{Vec}
use Rattle.listed.specs.Bodies.{bodies}
use Rattle.std.proofs.lemmas.List.{length-map, append-nil}
use Rattle.zmtp_wire.specs.Frame.{text, frame_octets, shortest}

-- the first frame of a text, with MORE where another follows
pub text-cons : (body : List ℕ) (bodies : List (List ℕ)) → text (body ∷ bodies)
    ≡ frame_octets (nat_lt 0 (length bodies)) false (shortest body) ++ text bodies
text-cons body [] = sym (append-nil (frame_octets false false (shortest body)))
text-cons body (next ∷ bodies) = rw (lt-ltb 0 (length (next ∷ bodies)) (omega arith)) refl

more_left_by : (X : Type 0) (frames : List X) (i : ℕ) (b : Bool) → nat_lt (i + 1) (length frames) ≡ b
    → nat_lt (i + 1) (length frames) ≡ nat_lt 0 (length (drop (i + 1) frames))
more_left_by X frames i true e = e ∙ sym (lt-ltb 0 (length (drop (i + 1) frames))
    (omega (arith, length-drop (i + 1) frames, ltb-true (i + 1) (length frames) e)))
more_left_by X frames i false e = e ∙ sym (le-ltb 0 (length (drop (i + 1) frames))
    (omega (arith, length-drop (i + 1) frames, ltb-false (i + 1) (length frames) e)))

-- whether another frame follows, by the count or by what is left
pub more_left : (X : Type 0) (frames : List X) (i : ℕ) → i < length frames → nat_lt (i + 1) (length frames)
    ≡ nat_lt 0 (length (drop (i + 1) frames))
more_left X frames i within = more_left_by X frames i (nat_lt (i + 1) (length frames)) refl

-- the text from a frame on: this frame, with MORE where another follows, and the text of those behind it
pub text_from : (frames : List (Vec ℕ)) (i : ℕ) (frame : Vec ℕ) (more : Bool) → i < length frames
    → frame ≡ get_or frames i frame → more ≡ nat_lt (i + 1) (length frames) → text (bodies (drop i frames))
    ≡ frame_octets more false (shortest frame.items) ++ text (bodies (drop (i + 1) frames))
text_from frames i frame more within is goes_on =
    let split : drop i frames ≡ frame ∷ drop (i + 1) frames = drop-cons frames i frame within
    ∙ ap (λ f. f ∷ drop (suc i) frames) (sym is) ∙ ap (λ k. frame ∷ drop k frames) (sym (add-one i)) in
    let flag : more ≡ nat_lt 0 (length (bodies (drop (i + 1) frames))) = goes_on ∙ more_left (Vec ℕ) frames i within
    ∙ ap (nat_lt 0) (sym (length-map (drop (i + 1) frames) (λ (f : Vec ℕ). f.items))) in
    ap (λ fs. text (bodies fs)) split ∙ text-cons frame.items (bodies (drop (i + 1) frames))
    ∙ ap (λ b. frame_octets b false (shortest frame.items) ++ text (bodies (drop (i + 1) frames))) (sym flag)

-- the length of the text from a frame on, which MORE doesn't change
pub length-text_from : (frames : List (Vec ℕ)) (i : ℕ) (frame : Vec ℕ) → i < length frames
    → frame ≡ get_or frames i frame → length (text (bodies (drop i frames)))
    ≡ length (frame_octets false false (shortest frame.items)) + length (text (bodies (drop (i + 1) frames)))
length-text_from frames i frame within is =
    ap length (text_from frames i frame (nat_lt (i + 1) (length frames)) within is refl)
    ∙ length-append (frame_octets (nat_lt (i + 1) (length frames)) false (shortest frame.items))
    (text (bodies (drop (i + 1) frames)))

-- what a loop over the frames of a message has appended, where there was this room at first, and is this now
pub record Appended (old new : List ℕ) (first now : ℕ) (rest whole : List (List ℕ)) : Type 0 where
  pub done : new ++ text rest ≡ old ++ text whole
  pub kept : first ≤ now

-- one more frame is appended
pub appended_more : (old middle new : List ℕ) (first now next : ℕ) (frames : List (Vec ℕ)) (i : ℕ) (frame : Vec ℕ)
    (more : Bool) → i < length frames → frame ≡ get_or frames i frame → more ≡ nat_lt (i + 1) (length frames)
    → Appended old middle first now (bodies (drop i frames)) (bodies frames)
    → new ≡ middle ++ frame_octets more false (shortest frame.items) → now ≤ next
    → Appended old new first next (bodies (drop (i + 1) frames)) (bodies frames)
appended_more old middle new first now next frames i frame more within is goes_on appended grown kept = record {
  done = ap (λ o. o ++ text (bodies (drop (i + 1) frames))) grown
      ∙ append_assoc middle (frame_octets more false (shortest frame.items)) (text (bodies (drop (i + 1) frames)))
      ∙ ap (λ o. middle ++ o) (sym (text_from frames i frame more within is goes_on)) ∙ appended.done;
  kept = let before = appended.kept in omega arith;
}

-- the next frame has room where the whole text had
pub has_room : (old middle : List ℕ) (first now : ℕ) (frames : List (Vec ℕ)) (i : ℕ) (frame : Vec ℕ) (more : Bool)
    → i < length frames → frame ≡ get_or frames i frame
    → Appended old middle first now (bodies (drop i frames)) (bodies frames)
    → length old + length (text (bodies frames)) ≤ first
    → length middle + length (frame_octets more false (shortest frame.items)) ≤ now
has_room old middle first now frames i frame more within is appended room =
    let both : length middle + length (text (bodies (drop i frames))) ≡ length old + length (text (bodies frames)) =
    sym (length-append middle (text (bodies (drop i frames)))) ∙ ap length appended.done
    ∙ length-append old (text (bodies frames)) in
    let split = length-text_from frames i frame within is in
    let same : length (frame_octets more false (shortest frame.items))
    ≡ length (frame_octets false false (shortest frame.items)) = refl in
    let before = appended.kept in
    omega arith
