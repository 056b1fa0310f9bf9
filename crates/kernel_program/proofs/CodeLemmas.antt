-- What an exit status says, by the program's way to end.
use Rattle.std.proofs.Common.{◌≡◌, ◌⊎◌, inl, inr, ℕ, List, Option, refl}
use Rattle.interp_core.specs.Interpreter.{Meaning}
use Rattle.kernel_program.specs.declared.status.Status.{Status}
use Rattle.kernel_program.specs.declared.status.Status.TheVariants.{Done, Ended, Failed, OutputFailed, WordsRefused}
use Rattle.kernel_program.specs.declared.status.Status.TheVariants.{WordsUnreadable, FileUnreadable, FileRefused}
use Rattle.kernel_program.specs.declared.status.Status.TheVariants.{CannotBind, Incomplete, InputRefused, BeginRefused}
use Rattle.kernel_program.specs.Profile.{Profile}
use Rattle.kernel_program.specs.Program.{DoesOrder, ProgramEnds, GivenWords, PrintsNothing, IsUnbegun, OrdersServe}
use Rattle.kernel_program.specs.Program.{RefusesInput, RefusesToBegin, RefusesWords}
use Rattle.kernel_program.specs.Status.{status_code}

-- each exit status but 0 and 1 is of a program that printed nothing
pub is_silent : (status : Status) → (status_code status ≡ 0 → ⊥) → (status_code status ≡ 1 → ⊥) → PrintsNothing status
is_silent Done none one = none refl
is_silent (Ended served) none one = tt
is_silent Failed none one = one refl
is_silent (OutputFailed why) none one = one refl
is_silent (WordsRefused said) none one = tt
is_silent WordsUnreadable none one = tt
is_silent (FileUnreadable why) none one = tt
is_silent (FileRefused fault) none one = tt
is_silent (CannotBind port why) none one = tt
is_silent Incomplete none one = tt
is_silent (InputRefused place) none one = tt
is_silent (BeginRefused said) none one = tt

-- with 7 the language refused to begin
pub is_unbegun : (status : Status) → status_code status ≡ 7 → IsUnbegun status
is_unbegun (BeginRefused said) is = tt
is_unbegun status is = absurd (let e = is in cc)

module _ {State Cell : Type 0} (m : Meaning State Cell) (profile : Profile State) (words : GivenWords)
    (input left before after : Option (List ℕ)) where
  pub says_done : (status : Status) → ProgramEnds m profile words input left before after status
      → status_code status ≡ 0
      → DoesOrder m profile words input left before after
  says_done Done ends is = ends
  says_done (Ended served) ends is = ends
  says_done status ends is = absurd (let e = is in cc)

  pub says_words : (status : Status) → ProgramEnds m profile words input left before after status
      → status_code status ≡ 2
      → RefusesWords profile.name words
  says_words (WordsRefused said) ends is = ends
  says_words WordsUnreadable ends is = ends
  says_words status ends is = absurd (let e = is in cc)

  pub says_file : (status : Status) → ProgramEnds m profile words input left before after status
      → status_code status ≡ 3
      → OrdersServe profile.name words
  says_file (FileUnreadable why) ends is = ends
  says_file (FileRefused fault) ends is = ends
  says_file status ends is = absurd (let e = is in cc)

  pub says_port : (status : Status) → ProgramEnds m profile words input left before after status
      → status_code status ≡ 4
      → OrdersServe profile.name words
  says_port (CannotBind port why) ends is = ends
  says_port status ends is = absurd (let e = is in cc)

  pub says_input : (status : Status) → ProgramEnds m profile words input left before after status
      → status_code status ≡ 6
      → RefusesInput profile.name words input
  says_input (InputRefused place) ends is = ends
  says_input status ends is = absurd (let e = is in cc)

  pub says_begin : (status : Status) → ProgramEnds m profile words input left before after status
      → status_code status ≡ 7
      → RefusesToBegin profile words
  says_begin (BeginRefused said) ends is = ends
  says_begin status ends is = absurd (let e = is in cc)

  -- and no other status
  pub says_one : (status : Status) → ProgramEnds m profile words input left before after status
      → (status_code status ≡ 0) ⊎ ((status_code status ≡ 1) ⊎ ((status_code status ≡ 2) ⊎ ((status_code status ≡ 3)
      ⊎ ((status_code status ≡ 4) ⊎ ((status_code status ≡ 6) ⊎ (status_code status ≡ 7))))))
  says_one Done ends = inl refl
  says_one (Ended served) ends = inl refl
  says_one Failed ends = inr (inl refl)
  says_one (OutputFailed why) ends = inr (inl refl)
  says_one (WordsRefused said) ends = inr (inr (inl refl))
  says_one WordsUnreadable ends = inr (inr (inl refl))
  says_one (FileUnreadable why) ends = inr (inr (inr (inl refl)))
  says_one (FileRefused fault) ends = inr (inr (inr (inl refl)))
  says_one (CannotBind port why) ends = inr (inr (inr (inr (inl refl))))
  says_one Incomplete ends = absurd ends
  says_one (InputRefused place) ends = inr (inr (inr (inr (inr (inl refl)))))
  says_one (BeginRefused said) ends = inr (inr (inr (inr (inr (inr refl)))))
