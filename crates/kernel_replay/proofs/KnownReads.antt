-- Known bytes that were taken by one read after the other.
use Rattle.std.proofs.Common.{◌≡◌, ℕ, List, [], ◌++◌, Option, Some, None, length, take, ap, ◌∙◌, sym, append_assoc}
use Rattle.std.specs.Prelude.{IfSome}
use Rattle.std.specs.Io.KnownBytes.{Consumes, Keeps, IsAtEnd}
use Rattle.std.proofs.Math.Seq.{take-append_seam}
use Rattle.std.proofs.lemmas.List.{append-nil}

-- a read after others
pub Consumes-then : (first middle last : Option (List ℕ)) (taken more all : List ℕ) → Consumes first middle taken
    → Consumes middle last more → all ≡ taken ++ more → Consumes first last all
Consumes-then None middle last taken more all before after is = tt
Consumes-then (Some xs) None last taken more all before after is = absurd before
Consumes-then (Some xs) (Some ys) None taken more all before after is = absurd after
Consumes-then (Some xs) (Some ys) (Some zs) taken more all before after is =
    before ∙ ap (λ (rest : List ℕ). taken ++ rest) after ∙ sym (append_assoc taken more zs)
    ∙ ap (λ (front : List ℕ). front ++ zs) (sym is)

-- a read that failed after others
pub Consumes-kept : (first middle last : Option (List ℕ)) (taken all : List ℕ) → Consumes first middle taken
    → Keeps middle last → all ≡ taken → Consumes first last all
Consumes-kept None middle last taken all before kept is = tt
Consumes-kept (Some xs) None last taken all before kept is = absurd before
Consumes-kept (Some xs) (Some ys) None taken all before kept is = absurd kept
Consumes-kept (Some xs) (Some ys) (Some zs) taken all before kept is =
    before ∙ ap (λ (rest : List ℕ). taken ++ rest) (sym kept) ∙ ap (λ (front : List ℕ). front ++ zs) (sym is)

-- after a read that found the end, all was taken
Consumes-last : (first middle last : Option (List ℕ)) (taken more : List ℕ) → Consumes first middle taken
    → Consumes middle last more → more ≡ [] → Consumes first last taken
Consumes-last first middle last taken more before after none =
    Consumes-then first middle last taken more taken before after
    (sym (append-nil taken) ∙ ap (λ (back : List ℕ). taken ++ back) (sym none))

-- nothing was taken yet
pub Consumes-start : (known : Option (List ℕ)) (taken : List ℕ) → taken ≡ [] → Consumes known known taken
Consumes-start None taken is = tt
Consumes-start (Some xs) taken is = ap (λ (front : List ℕ). front ++ xs) (sym is)

-- at the end all was taken
Consumes-all : (first last : Option (List ℕ)) (taken : List ℕ) → Consumes first last taken → IsAtEnd last
    → IfSome first (λ xs. taken ≡ xs)
Consumes-all None last taken before ended = tt
Consumes-all (Some xs) None taken before ended = absurd before
Consumes-all (Some xs) (Some ys) taken before ended =
    sym (before ∙ ap (λ (rest : List ℕ). taken ++ rest) ended ∙ append-nil taken)

-- at the end nothing is left
Consumes-ended : (first last : Option (List ℕ)) (taken : List ℕ) → Consumes first last taken → IsAtEnd last
    → IfSome first (λ _. last ≡ Some [])
Consumes-ended None last taken before ended = tt
Consumes-ended (Some xs) None taken before ended = absurd before
Consumes-ended (Some xs) (Some ys) taken before ended = ap Some ended

-- all that was known was taken, and nothing is left
pub record IsReadOut (first last : Option (List ℕ)) (taken : List ℕ) : Type 0 where
  pub all : IfSome first (λ xs. taken ≡ xs)
  pub at_end : IfSome first (λ _. last ≡ Some [])

-- after a read of nothing that found the end
pub IsReadOut-from_end : (first middle last : Option (List ℕ)) (taken : List ℕ) (n : ℕ) (buffer : List ℕ)
    → Consumes first middle taken → Consumes middle last (take n buffer) → n ≡ 0 → IsAtEnd last
    → IsReadOut first last taken
IsReadOut-from_end first middle last taken n buffer before after zero_read ended =
    let none = ap (λ (k : ℕ). take k buffer) zero_read in
    let whole = Consumes-last first middle last taken (take n buffer) before after none in
    record { all = Consumes-all first last taken whole ended; at_end = Consumes-ended first last taken whole ended }

-- what a read put at the front of a buffer
pub take-written : (n len : ℕ) (written rest buffer : List ℕ) → buffer ≡ take len (written ++ rest) → length written
    ≡ len → take n buffer ≡ take n written
take-written n len written rest buffer is full =
    ap (take n) (is ∙ ap (λ (k : ℕ). take k (written ++ rest)) (sym full) ∙ take-append_seam written rest)
