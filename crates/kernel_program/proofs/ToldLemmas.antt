-- Texts that are written one after the other.
use Rattle.std.proofs.Common.{◌≡◌, ◌++◌, ℕ, List, Option, Some, None, Result, Ok, Err, ap, append_assoc, ◌∙◌}
use Rattle.std.specs.Prelude.{OnOk}
use Rattle.std.specs.Io.KnownBytes.{Appends}

-- two texts are one
appends_both : (first middle last : Option (List ℕ)) (one other : List ℕ) → Appends first middle one
    → Appends middle last other → Appends first last (one ++ other)
appends_both None middle last one other begun went = tt
appends_both (Some before) None last one other begun went = absurd begun
appends_both (Some before) (Some between) None one other begun went = absurd went
appends_both (Some before) (Some between) (Some after) one other begun went =
    went ∙ ap (λ (l : List ℕ). l ++ other) begun ∙ append_assoc before one other

-- a text that was written, and another if that was written, too
pub tells_both : {T E : Type 0} (first middle last : Option (List ℕ)) (one other : List ℕ) (told : Result T E)
    → Appends first middle one → OnOk told (Appends middle last other) → OnOk told (Appends first last (one ++ other))
tells_both first middle last one other (Ok value) begun went = appends_both first middle last one other begun went
tells_both first middle last one other (Err error) begun went = tt
