-- The lines of an input, run and printed one after the other.
use Rattle.std.proofs.Common.{◌≡◌, ℕ, List, [], ◌++◌, Bool, true, false, Option, Some, None, refl, subst, sym}
use Rattle.std.proofs.Common.{append_assoc}
use Rattle.std.specs.Prelude.{IfSome}
use Rattle.std.proofs.lemmas.List.{append-nil}
use Rattle.std.specs.Io.BufRead.{drop_through}
use Rattle.std.specs.Io.KnownBytes.{Appends, Keeps}
use Rattle.std.proofs.KnownBytes.{Appends-nil, Appends-kept}
use Rattle.interp_core.specs.Interpreter.{Meaning}
use Rattle.arith_cells.specs.Printed.{InputPrints, LinePrints, Prints}
use Rattle.arith_cells.specs.Printed.InputPrints.{end, next_line}
use Rattle.arith_cells.proofs.PrintedLemmas.{appends_then}

-- what was printed so far stands in front of what the lines that are left print
pub record IsUnderway {State Cell : Type 0} (m : Meaning State Cell) (start : State) (input : List ℕ)
    (old new : Option (List ℕ)) (state : State) (now : Option (List ℕ)) : Type 0 where
  pub rest : List ℕ
  pub left : now ≡ Some rest
  pub text : List ℕ
  pub appended : Appends old new text
  pub in_front : (behind : List ℕ) (final : State) → InputPrints m state rest behind final
      → InputPrints m start input (text ++ behind) final

-- no line has been read yet
pub not_underway : {State Cell : Type 0} (m : Meaning State Cell) (start : State) (known : Option (List ℕ))
    (first : Option (List ℕ)) → IfSome first (λ input. IsUnderway m start input known known start first)
not_underway m start known None = tt
not_underway m start known (Some input) = record {
  rest = input;
  left = refl;
  text = [];
  appended = Appends-nil known;
  in_front = λ behind final printed. printed;
}

-- one more line
pub line_more : {State Cell : Type 0} (m : Meaning State Cell) (goes : Bool) (start state after : State)
    (old middle new first left now : Option (List ℕ))
    → IfSome first (λ input. IsUnderway m start input old middle state left)
    → IfSome left (λ input. LinePrints m goes input state middle new after now) → goes ≡ true
    → IfSome first (λ input. IsUnderway m start input old new after now)
line_more m goes start state after old middle new None left now begun printed is = tt
line_more m goes start state after old middle new (Some input) left now begun printed is =
    let left_line : LinePrints m goes begun.rest state middle new after now =
    subst (λ (o : Option (List ℕ)). IfSome o (λ i. LinePrints m goes i state middle new after now)) begun.left printed
    in
    let line : LinePrints m true begun.rest state middle new after now =
    subst (λ (b : Bool). LinePrints m b begun.rest state middle new after now) is left_line in
    record {
      rest = drop_through 10 begun.rest;
      left = line.2;
      text = begun.text ++ line.1.text;
      appended = appends_then old middle new begun.text line.1.text begun.appended line.1.appended;
      in_front = λ behind final more.
          subst (λ (t : List ℕ). InputPrints m start input t final) (sym (append_assoc begun.text line.1.text behind))
          (begun.in_front (line.1.text ++ behind) final
          (next_line state after final begun.rest line.1.text behind line.0 line.1.said more));
    }

-- no line is left
pub line_last : {State Cell : Type 0} (m : Meaning State Cell) (goes : Bool) (start state after : State)
    (old middle new last first left now : Option (List ℕ))
    → IfSome first (λ input. IsUnderway m start input old middle state left)
    → IfSome left (λ input. LinePrints m goes input state middle new after now) → goes ≡ false
    → Keeps new last → IfSome first (λ input. Prints (InputPrints m start input) old last after)
line_last m goes start state after old middle new last None left now begun printed is kept = tt
line_last {State = State} m goes start state after old middle new last (Some input) left now begun printed is kept =
    let left_line : LinePrints m goes begun.rest state middle new after now =
    subst (λ (o : Option (List ℕ)). IfSome o (λ i. LinePrints m goes i state middle new after now)) begun.left printed
    in
    let line : LinePrints m false begun.rest state middle new after now =
    subst (λ (b : Bool). LinePrints m b begun.rest state middle new after now) is left_line in
    let same : InputPrints m state begun.rest [] state =
    subst (λ (i : List ℕ). InputPrints m state i [] state) (sym line.0) (end state) in
    let whole = subst (λ (t : List ℕ). InputPrints m start input t state) (append-nil begun.text)
    (begun.in_front [] state same) in
    record {
      text = begun.text;
      appended = Appends-kept old new last begun.text (subst (λ (o : Option (List ℕ)). Appends old o begun.text)
          (sym line.1) begun.appended) kept;
      said = subst (λ (s : State). InputPrints m start input begun.text s) (sym line.2) whole;
    }
