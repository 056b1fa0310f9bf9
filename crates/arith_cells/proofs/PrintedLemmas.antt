-- What is printed in turn.
use Rattle.std.proofs.Common.{◌≡◌, ℕ, List, ◌++◌, true, false, Option, OnOk, Result, Ok, Err, refl}
use Rattle.std.specs.Io.KnownBytes.{Appends}
use Rattle.std.proofs.KnownBytes.{Appends-trans}
use Rattle.interp_core.specs.declared.fault.InterpFault.{InterpFault}
use Rattle.interp_core.specs.declared.fault.InterpFault.TheVariants as fault
use Rattle.interp_core.specs.declared.answer.Next.{Next}
use Rattle.interp_core.specs.declared.answer.Next.TheVariants.{More, Done, Failed}
use Rattle.interp_core.specs.Interpreter.{ByMemory, IfMemory, IsEnd}
use Rattle.arith_cells.specs.Printed.{FoundMemory, IsReported, goes_on}

-- one text after another
pub appends_then : (first middle last : Option (List ℕ)) (text more : List ℕ) → Appends first middle text
    → Appends middle last more → Appends first last (text ++ more)
appends_then = Appends-trans

-- what is known of a step that didn't fail for want of memory
pub of_answered : (next : Next) (memory other : Type 0) → FoundMemory next → ByMemory next memory other → other
of_answered More memory other is known = known
of_answered (Done value) memory other is known = known
of_answered (Failed (fault.Syntax place)) memory other is known = known
of_answered (Failed fault.Overflow) memory other is known = known
of_answered (Failed fault.ZeroDivision) memory other is known = known
of_answered (Failed fault.Shift) memory other is known = known
of_answered (Failed fault.TooDeep) memory other is known = known
of_answered (Failed fault.Interrupted) memory other is known = known
of_answered (Failed fault.OutOfMemory) memory other is known = absurd is
of_answered (Failed (fault.Raised name value)) memory other is known = known

-- what is known of a refusal that isn't want of memory
pub of_reported : (f : InterpFault) (memory other : Type 0) → IsReported f → IfMemory f memory other → other
of_reported (fault.Syntax place) memory other is known = known
of_reported fault.Overflow memory other is known = known
of_reported fault.ZeroDivision memory other is known = known
of_reported fault.Shift memory other is known = known
of_reported fault.TooDeep memory other is known = known
of_reported fault.Interrupted memory other is known = known
of_reported fault.OutOfMemory memory other is known = absurd is
of_reported (fault.Raised name value) memory other is known = known

-- a cell that goes on has no end yet
pub is_more : (next : Next) → goes_on next ≡ true → next ≡ More
is_more More is = refl
is_more (Done value) is = cc
is_more (Failed f) is = cc

-- a cell that doesn't go on has ended
pub is_end : (next : Next) → goes_on next ≡ false → IsEnd next
is_end More is = cc
is_end (Done value) is = tt
is_end (Failed f) is = tt

-- what follows from a fact of success
pub follows : {T E : Type 0} (r : Result T E) (P Q : Type 0) → OnOk r P → (P → Q) → OnOk r Q
follows (Ok v) P Q p f = f p
follows (Err e) P Q p f = tt

-- what follows from two facts of success
pub both_follow : {T E : Type 0} (r : Result T E) (P Q R : Type 0) → OnOk r P → OnOk r Q → (P → Q → R) → OnOk r R
both_follow (Ok v) P Q R p q f = f p q
both_follow (Err e) P Q R p q f = tt

-- a fact that holds anyway holds on success
pub on_success : {T E : Type 0} (r : Result T E) (P : Type 0) → P → OnOk r P
on_success (Ok v) P p = p
on_success (Err e) P p = tt
