-- Writes in turn.
use Rattle.std.proofs.Common.{◌≡◌, ℕ, zero, suc, List, [], ◌++◌, length, take, drop}
use Rattle.std.proofs.Common.{Result, Ok, Err}
use Rattle.std.proofs.Common.{refl, sym, ◌∙◌, ap, subst, append_assoc, length-append, arith}
use Rattle.std.proofs.lemmas.List.{take-append-drop, append-nil}
use Rattle.std.proofs.lemmas.Bool.{false≢true}
use Rattle.std.specs.Result.{IsErr}
use Rattle.std.proofs.KnownBytes.{Appends-nil, Appends-trans}
use Rattle.zmtp_wire.specs.declared.device.WriteFailed.{WriteFailed}
use Rattle.zmtp_wire.specs.Device.{Outflow, Puts, WriteAdds, AddsAll, risen, risen_by, idle_writes}

-- the octets written so far, and those left
pub record PutSoFar (old now : Outflow) (all rest : List ℕ) : Type 0 where
  pub front : List ℕ
  pub split : all ≡ front ++ rest
  pub puts : Puts old now front 0

-- a write that took some is no failure
some_taken : (count : ℕ) (rest : List ℕ) → ¬ (count ≡ 0) → idle_writes count (length rest) ≡ 0
some_taken zero rest some = absurd (some refl)
some_taken (suc count) rest some = refl

-- one more write
pub put_more : (old now new : Outflow) (all rest after : List ℕ) (count : ℕ) → PutSoFar old now all rest
    → WriteAdds now new (Ok count) rest
    → after ≡ drop count rest → ¬ (count ≡ 0) → PutSoFar old new all after
put_more old now new all rest after count so_far (added, fails) after_is some = record {
  front = so_far.front ++ take count rest;
  split = so_far.split ∙ ap (λ o. so_far.front ++ o) (sym (take-append-drop count rest)
      ∙ ap (λ o. take count rest ++ o) (sym after_is))
      ∙ sym (append_assoc so_far.front (take count rest) after);
  puts = record {
    added = Appends-trans old.written now.written new.written so_far.front (take count rest) so_far.puts.added added;
    fails = fails ∙ ap (λ n. risen_by n now.failures) (some_taken count rest some) ∙ so_far.puts.fails;
  };
}

-- octets that were all added, and then more, all of them or a beginning of them
pub adds_on : (old middle new : Outflow) (result : Result Unit WriteFailed) (first second : List ℕ)
    → Puts old middle first 0 → AddsAll middle new result second → AddsAll old new result (first ++ second)
adds_on old middle new (Ok done) first second puts adds = record {
  added = Appends-trans old.written middle.written new.written first second puts.added adds.added;
  fails = adds.fails ∙ puts.fails;
}
adds_on old middle new (Err failed) first second puts (front, lost, split, some, adds) = (
  first ++ front,
  lost,
  ap (λ o. first ++ o) split ∙ sym (append_assoc first front lost),
  some,
  record {
    added = Appends-trans old.written middle.written new.written first front puts.added adds.added;
    fails = adds.fails ∙ ap risen puts.fails;
  },
)

-- a beginning of octets is one of these and others behind them
pub adds_before : (old new : Outflow) (failed : WriteFailed) (result : Result Unit WriteFailed) (first second : List ℕ)
    → IsErr result → AddsAll old new (Err failed) first → AddsAll old new result (first ++ second)
adds_before old new failed (Ok done) first second is adds = absurd (false≢true is)
adds_before old new failed (Err other) first second is (front, lost, split, some, puts) = (
  front,
  lost ++ second,
  ap (λ o. o ++ second) split ∙ append_assoc front lost second,
  (let whole = length-append lost second in omega (arith, whole, some)),
  puts,
)

-- nothing is written yet
pub put_nothing : (now : Outflow) (all : List ℕ) → PutSoFar now now all all
put_nothing now all = record {
  front = [];
  split = refl;
  puts = record { added = Appends-nil now.written; fails = refl };
}

-- more of them were all added
pub put_on : (old now new : Outflow) (all rest first after : List ℕ) → PutSoFar old now all rest
    → rest ≡ first ++ after → Puts now new first 0 → PutSoFar old new all after
put_on old now new all rest first after so_far split puts = record {
  front = so_far.front ++ first;
  split = so_far.split ∙ ap (λ o. so_far.front ++ o) split ∙ sym (append_assoc so_far.front first after);
  puts = adds_on old now new (Ok tt) so_far.front first so_far.puts puts;
}

-- a beginning of what was left was added
pub put_cut : (old now new : Outflow) (failed : WriteFailed) (result : Result Unit WriteFailed)
    (all rest first after : List ℕ) → IsErr result → PutSoFar old now all rest → rest ≡ first ++ after
    → AddsAll now new (Err failed) first → AddsAll old new result all
put_cut old now new failed result all rest first after is so_far split adds =
    subst (λ (o : List ℕ). AddsAll old new result o) (sym (so_far.split ∙ ap (λ o. so_far.front ++ o) split))
    (adds_on old now new result so_far.front (first ++ after) so_far.puts
    (adds_before now new failed result first after is adds))

-- all of them were added
pub put_all : (old now : Outflow) (all : List ℕ) → PutSoFar old now all [] → Puts old now all 0
put_all old now all so_far =
    subst (λ (o : List ℕ). Puts old now o 0) (sym (so_far.split ∙ append-nil so_far.front)) so_far.puts
