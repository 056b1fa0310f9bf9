-- The grammar read from the front, as one function: so that no octets can be read in two ways.
use Rattle.std.proofs.Common.{◌≡◌, ℕ, zero, suc, ◌+◌, ◌/◌, ◌%◌, ◌||◌, ◌&&◌}
use Rattle.std.proofs.Common.{nat_lt, nat_le, nat_eq, Bool, true, false, not, cond, List, [], ◌∷◌, ◌++◌, length, take}
use Rattle.std.proofs.Common.{drop, sum_by, sym, ◌∙◌, ap, arith}
use Rattle.std.specs.Int.{w64, from_be_bytes}
use Rattle.zmtp_wire.specs.declared.traffic.limits.Limits.{Limits}
use Rattle.zmtp_wire.specs.declared.traffic.Traffic.{Traffic}
use Rattle.zmtp_wire.specs.declared.traffic.Traffic.TheVariants as traffic
use Rattle.zmtp_wire.specs.declared.fault.WireFault.{WireFault}
use Rattle.zmtp_wire.specs.declared.fault.WireFault.TheVariants as faults

-- what stands at the front, behind the frames of a message that goes on
pub data Look : Type 0 where
  waits : Look
  refused : WireFault → Look
  more_frame : List ℕ → List ℕ → Look
  last_frame : List ℕ → List ℕ → Look
  command : List ℕ → List ℕ → List ℕ → Look

abbrev pub has_more : ℕ → Bool
has_more flags = nat_eq (flags % 2) 1

abbrev pub has_long : ℕ → Bool
has_long flags = nat_eq (flags / 2 % 2) 1

abbrev pub has_command : ℕ → Bool
has_command flags = nat_eq (flags / 4) 1

-- a command's body, or that it has no name
abbrev pub command_in : List ℕ → List ℕ → Look
command_in [] after = refused faults.Command
command_in (size ∷ named) after = cond (nat_eq size 0 || nat_lt (length named) size) (refused faults.Command)
    (command (take size named) (drop size named) after)

-- a whole body
abbrev pub whole_in : Bool → Bool → List ℕ → List ℕ → Look
whole_in more true body after = command_in body after
whole_in true false body after = more_frame body after
whole_in false false body after = last_frame body after

-- a body of this size
unfoldable pub body_in : Limits → List (List ℕ) → Bool → Bool → ℕ → List ℕ → Look
body_in limits before more is_command size octets =
    cond (nat_lt limits.frame size) (refused faults.FrameTooLong)
    (cond (not is_command && nat_lt limits.message (sum_by length before + size)) (refused faults.MessageTooLong)
    (cond (nat_lt (length octets) size) waits (whole_in more is_command (take size octets) (drop size octets))))

-- a size of one octet or eight, and a body
unfoldable pub size_in : Limits → List (List ℕ) → Bool → Bool → Bool → List ℕ → Look
size_in limits before more false is_command [] = waits
size_in limits before more false is_command (size ∷ octets) = body_in limits before more is_command size octets
size_in limits before more true is_command octets =
    cond (nat_lt (length octets) 8) waits (body_in limits before more is_command (from_be_bytes w64 (take 8 octets))
    (drop 8 octets))

-- flags that are accepted or not, a size and a body
unfoldable pub flags_in : Limits → List (List ℕ) → Bool → Bool → Bool → List ℕ → Look
flags_in limits [] true long true octets = refused faults.Flags
flags_in limits [] false long true octets = size_in limits [] false long true octets
flags_in limits (body ∷ before) more long true octets = refused faults.Flags
flags_in limits before more long false octets = cond (nat_le limits.frames (length before))
    (refused faults.TooManyFrames) (size_in limits before more long false octets)

-- a frame
unfoldable pub look : Limits → List (List ℕ) → List ℕ → Look
look limits before [] = waits
look limits before (flags ∷ octets) =
    cond (nat_le 8 flags) (refused faults.Flags) (flags_in limits before (has_more flags) (has_long flags)
    (has_command flags) octets)

-- what stands at the front
pub data Verdict : Type 0 where
  unfinished : Verdict
  faulty : WireFault → Verdict
  found : Traffic → List ℕ → Verdict

-- what a look comes to, with what the rest of a message comes to
abbrev pub walk_on : (List (List ℕ) → List ℕ → Verdict) → List (List ℕ) → Look → Verdict
walk_on next before waits = unfinished
walk_on next before (refused fault) = faulty fault
walk_on next before (more_frame body after) = next (before ++ body ∷ []) after
walk_on next before (last_frame body after) = found (traffic.Message (before ++ body ∷ [])) after
walk_on next before (command name rest after) = found (traffic.Command name rest) after

-- going over the frames of a message, as many as there may be turns
abbrev pub walk : ℕ → Limits → List (List ℕ) → List ℕ → Verdict
walk zero limits before octets = unfinished
walk (suc turns) limits before octets = walk_on (walk turns limits) before (look limits before octets)

-- the front of these octets comes to this, however many more turns there may be
abbrev pub ComesTo : Limits → List ℕ → Verdict → Type 0
ComesTo limits octets verdict = (turns : ℕ) × ((others : ℕ) → walk (suc (others + turns)) limits [] octets ≡ verdict)

-- no octets come to two things
pub comes_once : (limits : Limits) (octets : List ℕ) (one other : Verdict) → ComesTo limits octets one
    → ComesTo limits octets other → one ≡ other
comes_once limits octets one other (turns, first) (others, second) =
    sym (first others) ∙ ap (λ n. walk (suc n) limits [] octets) (omega arith) ∙ second turns
