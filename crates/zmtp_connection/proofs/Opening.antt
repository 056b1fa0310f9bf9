-- A greeting that is filled read by read.
use Rattle.std.proofs.Common.{◌≡◌, ℕ, ◌+◌, ◌-◌, ◌<◌, ◌≤◌, List, ◌++◌, length, take, drop, sym, ◌∙◌, ap, subst, arith}
use Rattle.std.proofs.Common.{length-append, append_assoc}
use Rattle.std.proofs.lemmas.List.{length-take-le, take-append-drop, take_at, take_all, length-drop}
use borrow.Rule.Slice.PartMut.{put_mid, post_of, same_len_mid}
use Rattle.zmtp_connection.specs.Exchange.{Leg, Source}
use Rattle.zmtp_connection.proofs.Legs.{leg_on}

-- what is taken goes on into what stands behind
take_past : (xs ys zs : List ℕ) (count place : ℕ) → count ≤ length ys → place ≡ length xs + count
    → take place (xs ++ (ys ++ zs)) ≡ xs ++ take count ys
take_past xs ys zs count place fits is =
    let front : length (take count ys) ≡ count = length-take-le count ys fits in
    ap (λ o. take place (xs ++ (o ++ zs))) (sym (take-append-drop count ys))
    ∙ ap (λ o. take place (xs ++ o)) (append_assoc (take count ys) (drop count ys) zs)
    ∙ ap (take place) (sym (append_assoc xs (take count ys) (drop count ys ++ zs)))
    ∙ take_at (xs ++ take count ys) (drop count ys ++ zs) place
    (let e = is in omega (arith, e, length-append xs (take count ys), front))

-- what has come is shorter than a greeting
pub filled_short : (opening : List ℕ) (filled : ℕ) → filled < 64 → length opening ≡ 64
    → length (take filled opening) < 64
filled_short opening filled short whole = let e : length (take filled opening) ≡ filled =
    length-take-le filled opening (omega (arith, whole)) in omega (arith, e)

-- a greeting that is filled is all that was read
pub filled_whole : (opening : List ℕ) (filled : ℕ) → filled ≤ 64 → 64 ≤ filled → length opening ≡ 64
    → take filled opening ≡ opening
filled_whole opening filled fits full whole = take_all filled opening (omega (arith, whole))

-- a greeting, after one more read
pub record Filled (one three : Source) (opening : List ℕ) (filled : ℕ) : Type 0 where
  pub fits : filled ≤ 64
  pub whole : length opening ≡ 64
  pub leg : Leg one three (take filled opening)

pub filled_more : (one two three : Source) (opening piece : List ℕ) (filled count : ℕ)
    → Filled one two opening filled
    → length piece ≡ length (take (64 - filled) (drop filled opening)) → count ≤ length piece
    → Leg two three (take count piece)
    → Filled one three (put_mid filled (64 - filled) opening piece) (filled + count)
filled_more one two three opening piece filled count so_far same fits leg =
    let front : length (take filled opening) ≡ filled =
    length-take-le filled opening (omega (arith, so_far.fits, so_far.whole)) in
    let room : length piece ≡ 64 - filled = same ∙ length-take-le (64 - filled) (drop filled opening)
    (omega (arith, length-drop filled opening, so_far.whole)) in
    let taken : take (filled + count) (put_mid filled (64 - filled) opening piece) ≡ take filled opening
    ++ take count piece =
    take_past (take filled opening) piece (post_of filled (64 - filled) opening) count (filled + count) fits
    (ap (λ n. n + count) (sym front)) in
    record {
      fits = omega (arith, so_far.fits, room, fits);
      whole = same_len_mid filled (64 - filled) opening piece same ∙ so_far.whole;
      leg = subst (Leg one three) (sym taken)
          (leg_on one two three (take filled opening) (take count piece) so_far.leg leg);
    }
