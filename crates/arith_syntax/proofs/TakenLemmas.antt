-- Each token that is taken keeps what the parser holds: it spells the tokens that were taken and begins a statement.
use Rattle.std.proofs.Common.{◌≡◌, ℕ, ◌≤◌, Bool, true, false, cond, List, [], ◌∷◌, ◌++◌, Option, Some, None, refl, sym}
use Rattle.std.proofs.Common.{subst, ap, ◌∙◌, arith, append_assoc, nat_le}
use Rattle.std.proofs.lemmas.Bool.{leb-true}
use Rattle.std.proofs.lemmas.List.{append-nil}
use Rattle.arith_syntax.specs.declared.operator.BinaryOperator.{BinaryOperator}
use Rattle.arith_syntax.specs.declared.operator.BinaryOperator.TheVariants as binary
use Rattle.arith_syntax.specs.declared.operator.AssignmentOperator.{AssignmentOperator}
use Rattle.arith_syntax.specs.declared.operator.UnaryOperator.TheVariants as unary
use Rattle.arith_syntax.specs.declared.token.Token.{Token}
use Rattle.arith_syntax.specs.declared.token.Token.TheVariants.{Constant, Name, Operator, Assign, Complement, Not}
use Rattle.arith_syntax.specs.declared.token.Token.TheVariants.{Question, Colon, Open, Close}
use Rattle.arith_syntax.specs.Grammar.{Tree, Variable, operator_level, level, IsStatement, BeginsStatement, spelled}
use Rattle.arith_syntax.specs.Machine.{Begun, Opened, Signed, Operated, Questioned, Divided, Named, room_of, settle}
use Rattle.arith_syntax.specs.Machine.{State, begin, begin_sign, sign_of, take_due, take_behind, take_at, take_colon}
use Rattle.arith_syntax.specs.Machine.{take_close, take_assign, advance_on, outermost, run, close_at, close, StopsAt}
use Rattle.arith_syntax.proofs.MachineLemmas.{operator_level_least, operator_level_most}
use Rattle.arith_syntax.proofs.SoundLemmas.{front, fronts, grade, IsGood, AreGood, Holds, settles_well, held_begins}
use Rattle.arith_syntax.proofs.SoundLemmas.{due_begins}

-- what a parser holds where an operand is due, or behind one
abbrev IsSoundAt : List Token → List Begun → Option Tree → Type 0
IsSoundAt tokens bs None = AreGood bs × (tokens ≡ fronts bs)
IsSoundAt tokens bs (Some u) = Holds tokens bs u × (level u ≡ 0)

-- a state that tokens led to
abbrev pub IsSound : List Token → Option State → Type 0
IsSound tokens None = Unit {0}
IsSound tokens (Some s) = IsSoundAt tokens s.begun s.operand

-- each construct has room for an operator in front of an operand
room_least : (bs : List Begun) → 1 ≤ room_of bs
room_least [] = omega arith
room_least (Opened ∷ bs) = omega arith
room_least (Signed sign ∷ bs) = omega arith
room_least (Operated a op ∷ bs) = omega (arith, operator_level_least op)
room_least (Questioned c ∷ bs) = omega arith
room_least (Divided c a ∷ bs) = omega arith
room_least (Named x op ∷ bs) = omega arith

-- what doesn't end at an operator has room for it
stops_room : (weak : ℕ) (bs : List Begun) → 2 ≤ weak → weak ≤ 11 → StopsAt weak bs → weak ≤ room_of bs
stops_room weak [] least most stops = omega arith
stops_room weak (Opened ∷ bs) least most stops = omega arith
stops_room weak (Signed sign ∷ bs) least most stops = absurd (omega arith)
stops_room weak (Operated a op ∷ bs) least most stops = omega arith
stops_room weak (Questioned c ∷ bs) least most stops = omega arith
stops_room weak (Divided c a ∷ bs) least most stops = omega arith
stops_room weak (Named x op ∷ bs) least most stops = omega arith

-- what doesn't end at `?` has room for a conditional
question_room : (bs : List Begun) → StopsAt 11 bs → 12 ≤ room_of bs
question_room [] stops = omega arith
question_room (Opened ∷ bs) stops = omega arith
question_room (Signed sign ∷ bs) stops = absurd (omega arith)
question_room (Operated a op ∷ bs) stops = absurd (omega (arith, operator_level_most op))
question_room (Questioned c ∷ bs) stops = omega arith
question_room (Divided c a ∷ bs) stops = omega arith
question_room (Named x op ∷ bs) stops = omega arith

-- a construct more
begun_sound : (tokens : List Token) (b : Begun) (bs : List Begun) → AreGood bs → IsGood b → grade b ≤ room_of bs
    → tokens ≡ fronts bs ++ front b → IsSound tokens (begin b bs)
begun_sound tokens b bs good held fits spells = ((held, fits, good), spells)

-- an operator where an operand is due
operator_sound : (tokens : List Token) (bs : List Begun) (op : BinaryOperator) → AreGood bs → tokens ≡ fronts bs
    → IsSound (tokens ++ (Operator op ∷ [])) (begin_sign (sign_of (Operator op)) bs)
operator_sound tokens bs binary.Add good spells =
    begun_sound (tokens ++ (Operator binary.Add ∷ [])) (Signed unary.Plus) bs good tt (room_least bs)
    (ap (λ (xs : List Token). xs ++ (Operator binary.Add ∷ [])) spells)
operator_sound tokens bs binary.Subtract good spells =
    begun_sound (tokens ++ (Operator binary.Subtract ∷ [])) (Signed unary.Minus) bs good tt (room_least bs)
    (ap (λ (xs : List Token). xs ++ (Operator binary.Subtract ∷ [])) spells)
operator_sound tokens bs _ good spells = tt

-- a token where an operand is due
due_sound : (tokens : List Token) (bs : List Begun) (token : Token) → AreGood bs → tokens ≡ fronts bs
    → IsSound (tokens ++ (token ∷ [])) (take_due bs token)
due_sound tokens bs (Constant n) good spells = (
  record {
    good = good;
    spells = ap (λ (xs : List Token). xs ++ (Constant n ∷ [])) spells;
    grammatical = tt;
    fits = omega arith;
  },
  refl,
)
due_sound tokens bs (Name x) good spells = (
  record {
    good = good;
    spells = ap (λ (xs : List Token). xs ++ (Name x ∷ [])) spells;
    grammatical = tt;
    fits = omega arith;
  },
  refl,
)
due_sound tokens bs Open good spells =
    begun_sound (tokens ++ (Open ∷ [])) Opened bs good tt (omega arith)
    (ap (λ (xs : List Token). xs ++ (Open ∷ [])) spells)
due_sound tokens bs Complement good spells =
    begun_sound (tokens ++ (Complement ∷ [])) (Signed unary.Complement) bs good tt (room_least bs)
    (ap (λ (xs : List Token). xs ++ (Complement ∷ [])) spells)
due_sound tokens bs Not good spells =
    begun_sound (tokens ++ (Not ∷ [])) (Signed unary.Not) bs good tt (room_least bs)
    (ap (λ (xs : List Token). xs ++ (Not ∷ [])) spells)
due_sound tokens bs (Operator op) good spells = operator_sound tokens bs op good spells
due_sound tokens bs _ good spells = tt

-- a token more behind an operand
more_spelled : (tokens : List Token) (bs : List Begun) (u : Tree) (token : Token) → tokens ≡ fronts bs ++ spelled u
    → tokens ++ (token ∷ []) ≡ fronts bs ++ (spelled u ++ (token ∷ []))
more_spelled tokens bs u token spells =
    ap (λ (xs : List Token). xs ++ (token ∷ [])) spells ∙ append_assoc (fronts bs) (spelled u) (token ∷ [])

-- `:`
take_colon_sound : (tokens : List Token) (bs : List Begun) (u : Tree) → Holds tokens bs u
    → IsSound (tokens ++ (Colon ∷ [])) (take_colon bs u)
take_colon_sound tokens [] u held = tt
take_colon_sound tokens (Questioned c ∷ bs) u held =
    begun_sound (tokens ++ (Colon ∷ [])) (Divided c u) bs held.good.2 (held.good.0.0, held.good.0.1, held.grammatical)
    held.good.1
    (more_spelled tokens (Questioned c ∷ bs) u Colon held.spells
    ∙ append_assoc (fronts bs) (spelled c ++ (Question ∷ [])) (spelled u ++ (Colon ∷ []))
    ∙ ap (λ (xs : List Token). fronts bs ++ xs) (append_assoc (spelled c) (Question ∷ []) (spelled u ++ (Colon ∷ []))))
take_colon_sound tokens (_ ∷ bs) u held = tt

-- `)`
take_close_sound : (tokens : List Token) (bs : List Begun) (u : Tree) → Holds tokens bs u
    → IsSound (tokens ++ (Close ∷ [])) (take_close bs u)
take_close_sound tokens [] u held = tt
take_close_sound tokens (Opened ∷ bs) u held = (
  record {
    good = held.good.2;
    spells =
        more_spelled tokens (Opened ∷ bs) u Close held.spells
        ∙ append_assoc (fronts bs) (Open ∷ []) (spelled u ++ (Close ∷ []));
    grammatical = held.grammatical;
    fits = omega arith;
  },
  refl,
)
take_close_sound tokens (_ ∷ bs) u held = tt

-- an assignment's sign
take_assign_sound : (tokens : List Token) (op : AssignmentOperator) (bs : List Begun) (u : Tree) → Holds tokens bs u
    → IsSound (tokens ++ (Assign op ∷ [])) (take_assign op bs u)
take_assign_sound tokens op bs (Variable x) held =
    let Goal : Bool → Type 0 = λ fitting. nat_le 13 (room_of bs) ≡ fitting
    → IsSound (tokens ++ (Assign op ∷ [])) (cond fitting (begin (Named x op) bs) None) in
    elim (nat_le 13 (room_of bs)) as Goal [
      | true ↦ λ is. begun_sound (tokens ++ (Assign op ∷ [])) (Named x op) bs held.good tt (leb-true 13 (room_of bs) is)
          (more_spelled tokens bs (Variable x) (Assign op) held.spells)
      | false ↦ λ is. tt
    ] refl
take_assign_sound tokens op bs _ held = tt

-- a token behind an operand
behind_sound : (tokens : List Token) (bs : List Begun) (u : Tree) (token : Token) → Holds tokens bs u → level u ≡ 0
    → IsSound (tokens ++ (token ∷ [])) (take_behind bs u token)
behind_sound tokens bs u (Operator op) held none =
    let s = settles_well (operator_level op) tokens bs u (omega (arith, operator_level_most op)) (omega arith) held in
    let settled = settle (operator_level op) bs u in
    begun_sound (tokens ++ (Operator op ∷ [])) (Operated settled.operand op) settled.begun s.held.good
    (s.strong, s.held.grammatical)
    (stops_room (operator_level op) settled.begun (operator_level_least op) (operator_level_most op) s.stops)
    (more_spelled tokens settled.begun settled.operand (Operator op) s.held.spells)
behind_sound tokens bs u (Assign op) held none = take_assign_sound tokens op bs u held
behind_sound tokens bs u Question held none =
    let s = settles_well 11 tokens bs u (omega arith) (omega arith) held in
    let settled = settle 11 bs u in
    begun_sound (tokens ++ (Question ∷ [])) (Questioned settled.operand) settled.begun s.held.good
    (s.strong, s.held.grammatical)
    (question_room settled.begun s.stops)
    (more_spelled tokens settled.begun settled.operand Question s.held.spells)
behind_sound tokens bs u Colon held none =
    let s = settles_well 13 tokens bs u (omega arith) (omega arith) held in
    let settled = settle 13 bs u in
    take_colon_sound tokens settled.begun settled.operand s.held
behind_sound tokens bs u Close held none =
    let s = settles_well 13 tokens bs u (omega arith) (omega arith) held in
    let settled = settle 13 bs u in
    take_close_sound tokens settled.begun settled.operand s.held
behind_sound tokens bs u _ held none = tt

-- a token behind an operand, or where one is due
at_sound : (tokens : List Token) (bs : List Begun) (operand : Option Tree) (token : Token) → IsSoundAt tokens bs operand
    → IsSound (tokens ++ (token ∷ [])) (take_at bs operand token)
at_sound tokens bs None token sound = due_sound tokens bs token sound.0 sound.1
at_sound tokens bs (Some u) token sound = behind_sound tokens bs u token sound.0 sound.1

-- a token more
advance_sound : (tokens : List Token) (s : Option State) (token : Token) → IsSound tokens s
    → IsSound (tokens ++ (token ∷ [])) (advance_on s token)
advance_sound tokens None token sound = tt
advance_sound tokens (Some s) token sound = at_sound tokens s.begun s.operand token sound

-- tokens in turn
pub run_sound : (before tokens : List Token) (s : Option State) → IsSound before s
    → IsSound (before ++ tokens) (run s tokens)
run_sound before [] s sound = rw (append-nil before) sound
run_sound before (token ∷ tokens) s sound =
    let Goal : List Token → Type 0 = λ all. IsSound all (run s (token ∷ tokens)) in
    subst Goal (append_assoc before (token ∷ []) tokens)
    (run_sound (before ++ (token ∷ [])) tokens (advance_on s token) (advance_sound before s token sound))

-- what a sound state holds begins a statement
sound_begins_at : (tokens : List Token) (bs : List Begun) (operand : Option Tree) → IsSoundAt tokens bs operand
    → BeginsStatement tokens
sound_begins_at tokens bs None sound =
    let Goal : List Token → Type 0 = λ all. BeginsStatement all in subst Goal (sym sound.1) (due_begins bs sound.0)
sound_begins_at tokens bs (Some u) sound = held_begins tokens bs u sound.0

-- the same of a state
pub sound_begins : (tokens : List Token) (s : State) → IsSound tokens (Some s) → BeginsStatement tokens
sound_begins tokens s sound = sound_begins_at tokens s.begun s.operand sound

-- a tree that is given is that of the tokens
abbrev pub ClosesWell : List Token → Option Tree → Type 0
ClosesWell tokens None = Unit {0}
ClosesWell tokens (Some t) = IsStatement tokens t

-- what no construct is around is that of the tokens
outermost_well : (tokens : List Token) (bs : List Begun) (u : Tree) → Holds tokens bs u
    → ClosesWell tokens (outermost bs u)
outermost_well tokens [] u held = record { spells = held.spells; fits = held.fits; grammatical = held.grammatical }
outermost_well tokens (b ∷ bs) u held = tt

-- the end of sound tokens gives their tree
close_well_at : (tokens : List Token) (bs : List Begun) (operand : Option Tree) → IsSoundAt tokens bs operand
    → ClosesWell tokens (close_at bs operand)
close_well_at tokens bs None sound = tt
close_well_at tokens bs (Some u) sound =
    let s = settles_well 13 tokens bs u (omega arith) (omega (arith, sound.1)) sound.0 in
    let settled = settle 13 bs u in
    outermost_well tokens settled.begun settled.operand s.held

-- the same of a state
pub close_well : (tokens : List Token) (s : State) → IsSound tokens (Some s) → ClosesWell tokens (close s)
close_well tokens s sound = close_well_at tokens s.begun s.operand sound
