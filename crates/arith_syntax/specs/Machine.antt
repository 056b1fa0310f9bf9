-- How the parser goes from token to token. Private contracts alone cite this file, and no public one: what the parser
-- gives is said by `Parses`, in terms of the grammar.
use Rattle.std.specs.Bool.{nat_le}
use Rattle.std.specs.Prelude.{◌≡◌, ℕ, ◌-◌, ◌≤◌, ◌<◌, ⊤, List, [], ◌∷◌, ◌++◌, Bool, true, false, cond, Option, Some}
use Rattle.std.specs.Prelude.{None, Result, Ok, Err}
use Rattle.arith_syntax.specs.declared.operator.BinaryOperator.{BinaryOperator}
use Rattle.arith_syntax.specs.declared.operator.BinaryOperator.TheVariants as binary
use Rattle.arith_syntax.specs.declared.operator.UnaryOperator.{UnaryOperator}
use Rattle.arith_syntax.specs.declared.operator.UnaryOperator.TheVariants as unary
use Rattle.arith_syntax.specs.declared.operator.AssignmentOperator.{AssignmentOperator}
use Rattle.arith_syntax.specs.declared.token.Token.{Token}
use Rattle.arith_syntax.specs.declared.token.Token.TheVariants.{Constant, Name, Operator, Assign, Complement, Not}
use Rattle.arith_syntax.specs.declared.token.Token.TheVariants.{Question, Colon, Open, Close}
use Rattle.arith_syntax.specs.declared.part.Part.{Part}
use Rattle.arith_syntax.specs.declared.fault.ReadFault.{ReadFault}
use Rattle.arith_syntax.specs.declared.fault.ReadFault.TheVariants.{Syntax, TooDeep, OutOfMemory}
use Rattle.arith_syntax.specs.declared.parser.Frame.{Frame}
use Rattle.arith_syntax.specs.declared.parser.Frame.TheVariants as frame
use Rattle.arith_syntax.specs.declared.parser.Parser.{Parser}
use Rattle.arith_syntax.specs.Grammar.{Tree, Number, Variable, Group, Unary, Binary, Conditional, Assignment}
use Rattle.arith_syntax.specs.Grammar.{operator_level}
use Rattle.arith_syntax.specs.Parts.{before, grown, last, name_of, trees_in}

-- a construct that has begun and waits for the operand that ends it, or for the middle of `?` and `:`
pub data Begun : Type 0 where
  Opened : Begun
  Signed : UnaryOperator → Begun
  Operated : Tree → BinaryOperator → Begun
  Questioned : Tree → Begun
  Divided : Tree → Tree → Begun
  Named : List ℕ → AssignmentOperator → Begun

-- the strongest level of an operator that ends a construct; 14 if none does
abbrev pub rank : Begun → ℕ
rank Opened = 14
rank (Signed sign) = 1
rank (Operated a op) = operator_level op
rank (Questioned c) = 14
rank (Divided c a) = 12
rank (Named x op) = 13

-- the greatest level that fits into a construct
abbrev pub room : Begun → ℕ
room Opened = 13
room (Signed sign) = 1
room (Operated a op) = operator_level op - 1
room (Questioned c) = 13
room (Divided c a) = 12
room (Named x op) = 13

-- the greatest level that fits into the innermost construct
abbrev pub room_of : List Begun → ℕ
room_of [] = 13
room_of (b ∷ bs) = room b

-- the tree that a construct becomes; one of `?` gets 0 for its third part
abbrev pub built : Begun → Tree → Tree
built Opened u = Group u
built (Signed sign) u = Unary sign u
built (Operated a op) u = Binary a op u
built (Questioned c) u = Conditional c u (Number 0)
built (Divided c a) u = Conditional c a u
built (Named x op) u = Assignment x op u

-- constructs that have begun, the innermost first, and the operand that was read last, or none if one is due
pub record State : Type 0 where
  pub begun : List Begun
  pub operand : Option Tree

-- constructs that have begun, and an operand
pub record Settled : Type 0 where
  pub begun : List Begun
  pub operand : Tree

-- the innermost constructs end that aren't weaker than a level, and become the operand
abbrev pub settle : ℕ → List Begun → Tree → Settled
settle weak [] u = record { begun = []; operand = u }
settle weak (b ∷ bs) u = cond (nat_le (rank b) weak) (settle weak bs (built b u))
    (record { begun = b ∷ bs; operand = u })

-- an operand is due once more, inside one construct more
abbrev pub begin : Begun → List Begun → Option State
begin b bs = Some (record { begun = b ∷ bs; operand = None })

-- the operator in front of an operand that a token is
abbrev pub sign_of : Token → Option UnaryOperator
sign_of (Operator binary.Add) = Some unary.Plus
sign_of (Operator binary.Subtract) = Some unary.Minus
sign_of Complement = Some unary.Complement
sign_of Not = Some unary.Not
sign_of _ = None

-- a sign in front of an operand begins a construct
abbrev pub begin_sign : Option UnaryOperator → List Begun → Option State
begin_sign None bs = None
begin_sign (Some sign) bs = begin (Signed sign) bs

-- what a token leads to if an operand is due
abbrev pub take_due : List Begun → Token → Option State
take_due bs (Constant n) = Some (record { begun = bs; operand = Some (Number n) })
take_due bs (Name x) = Some (record { begun = bs; operand = Some (Variable x) })
take_due bs Open = begin Opened bs
take_due bs token = begin_sign (sign_of token) bs

-- what `:` leads to after a settled operand
abbrev pub take_colon : List Begun → Tree → Option State
take_colon [] u = None
take_colon (Questioned c ∷ bs) u = begin (Divided c u) bs
take_colon (_ ∷ bs) u = None

-- what `)` leads to after a settled operand
abbrev pub take_close : List Begun → Tree → Option State
take_close [] u = None
take_close (Opened ∷ bs) u = Some (record { begun = bs; operand = Some (Group u) })
take_close (_ ∷ bs) u = None

-- what an assignment's sign leads to after an operand, which has to be a name
abbrev pub take_assign : AssignmentOperator → List Begun → Tree → Option State
take_assign op bs (Variable x) = cond (nat_le 13 (room_of bs)) (begin (Named x op) bs) None
take_assign op bs _ = None

-- what a token leads to after an operand
abbrev pub take_behind : List Begun → Tree → Token → Option State
take_behind bs u (Operator op) =
    let s = settle (operator_level op) bs u in begin (Operated s.operand op) s.begun
take_behind bs u (Assign op) = take_assign op bs u
take_behind bs u Question = let s = settle 11 bs u in begin (Questioned s.operand) s.begun
take_behind bs u Colon = let s = settle 13 bs u in take_colon s.begun s.operand
take_behind bs u Close = let s = settle 13 bs u in take_close s.begun s.operand
take_behind bs u _ = None

-- what a token leads to, after an operand or if one is due
abbrev pub take_at : List Begun → Option Tree → Token → Option State
take_at bs None token = take_due bs token
take_at bs (Some u) token = take_behind bs u token

-- the state that a token leads to, or none if it doesn't fit
abbrev pub advance : State → Token → Option State
advance s token = take_at s.begun s.operand token

-- the state of a parser that has read nothing
abbrev pub start : State
start = record { begun = []; operand = None }

-- what a token leads to after others, if these fitted
abbrev pub advance_on : Option State → Token → Option State
advance_on None token = None
advance_on (Some s) token = advance s token

-- what tokens lead to, one after the other
abbrev pub run : Option State → List Token → Option State
run s [] = s
run s (token ∷ tokens) = run (advance_on s token) tokens

-- the tree at the end, if no construct around it is open
abbrev pub outermost : List Begun → Tree → Option Tree
outermost [] u = Some u
outermost (b ∷ bs) u = None

-- the tree at the end of the tokens, if an operand was read last and no construct is open
abbrev pub close_at : List Begun → Option Tree → Option Tree
close_at bs None = None
close_at bs (Some u) = let s = settle 13 bs u in outermost s.begun s.operand

-- the tree at the end of the tokens, from a state, if there is one
abbrev pub close : State → Option Tree
close s = close_at s.begun s.operand

-- the construct that a frame of the parser stands for, if these trees were read before it, the last one first
abbrev pub begun_of : Frame → List Tree → Begun
begun_of frame.Open trees = Opened
begun_of (frame.Unary sign) trees = Signed sign
begun_of (frame.Binary op) trees = Operated (last trees) op
begun_of frame.Question trees = Questioned (last trees)
begun_of frame.Colon trees = Divided (last (before trees)) (last trees)
begun_of (frame.Assign op) trees = Named (name_of (last trees)) op

-- the trees that are no part of that construct
abbrev pub left_by : Frame → List Tree → List Tree
left_by frame.Open trees = trees
left_by (frame.Unary sign) trees = trees
left_by (frame.Binary op) trees = before trees
left_by frame.Question trees = before trees
left_by frame.Colon trees = before (before trees)
left_by (frame.Assign op) trees = before trees

-- frames with the innermost first; a parser has it last
abbrev pub turned : List Frame → List Frame
turned [] = []
turned (f ∷ fs) = turned fs ++ (f ∷ [])

-- the constructs that frames stand for, the innermost first
abbrev pub begun_by : List Frame → List Tree → List Begun
begun_by [] trees = []
begun_by (f ∷ fs) trees = begun_of f trees ∷ begun_by fs (left_by f trees)

-- the constructs that a stack of frames stands for; its innermost is its last
abbrev pub stack_of : List Frame → List Tree → List Begun
stack_of frames trees = begun_by (turned frames) trees

-- The state that frames and trees stand for. If an operand was read last it is the last tree, and else one is due.
abbrev pub state_at : List Frame → Bool → List Tree → State
state_at frames false trees = record { begun = stack_of frames trees; operand = None }
state_at frames true trees = record { begun = stack_of frames (before trees); operand = Some (last trees) }

-- the state that a parser of a text stands for
abbrev pub state_of : List ℕ → Parser → State
state_of text parser = state_at parser.frames.items parser.held (trees_in text parser.parts)

-- the constructs around the operand that a parser of a text holds
abbrev pub around : List ℕ → Parser → List Begun
around text parser = stack_of parser.frames.items (before (trees_in text parser.parts))

-- want of memory, the one fault that the parser's steps have
abbrev pub IsMemory : ReadFault → Type 0
IsMemory (Syntax place) = ⊥
IsMemory TooDeep = ⊥
IsMemory OutOfMemory = ⊤

-- the part that a construct becomes, whatever its text and its trees are
abbrev pub IsBuilt : Frame → Part → Type 0
IsBuilt f p = (text : List ℕ) (trees : List Tree) → grown text p trees
    ≡ built (begun_of f (before trees)) (last trees) ∷ left_by f (before trees)

-- the innermost construct is weaker than a level
abbrev pub StopsAt : ℕ → List Begun → Type 0
StopsAt weak [] = ⊤
StopsAt weak (b ∷ bs) = weak < rank b

-- the innermost construct isn't weaker than a level
abbrev pub ends_at : ℕ → List Begun → Bool
ends_at weak [] = false
ends_at weak (b ∷ bs) = nat_le (rank b) weak

-- a frame was put onto a stack as its innermost, or no memory was left
abbrev pub PushesTo : Frame → List Frame → Result (Unit {0}) ReadFault → List Frame → Type 0
PushesTo f old (Ok done) new = turned new ≡ f ∷ turned old
PushesTo f old (Err fault) new = IsMemory fault

-- the innermost frame was taken off a stack, or there was none
abbrev pub Pops : List Frame → Option Frame → List Frame → Type 0
Pops old None new = (turned old ≡ []) × (turned new ≡ [])
Pops old (Some f) new = turned old ≡ f ∷ turned new

-- the innermost frame was taken off a stack; or it is weaker than a level, or there is none, and it stayed
abbrev pub PopsEnding : ℕ → List Frame → Option Frame → List Frame → Type 0
PopsEnding weak old None new = (turned new ≡ turned old) × ((trees : List Tree) → StopsAt weak (stack_of old trees))
PopsEnding weak old (Some f) new = (turned old ≡ f ∷ turned new) × ((trees : List Tree)
    → rank (begun_of f trees) ≤ weak)

-- the innermost frame was a `?` and was taken off, or `:` can't follow
abbrev pub PopsCondition : List Frame → Bool → List Frame → Type 0
PopsCondition old true new = turned old ≡ frame.Question ∷ turned new
PopsCondition old false new = (trees : List Tree) (u : Tree) → take_colon (stack_of old trees) u ≡ None

-- the innermost frame was a `(` and was taken off, or `)` can't follow
abbrev pub PopsOpen : List Frame → Bool → List Frame → Type 0
PopsOpen old true new = turned old ≡ frame.Open ∷ turned new
PopsOpen old false new = (trees : List Tree) (u : Tree) → take_close (stack_of old trees) u ≡ None

-- no frame is left, or the tokens can't end here
abbrev pub IsWholeStack : List Frame → Bool → Type 0
IsWholeStack frames true = (trees : List Tree) → stack_of frames trees ≡ []
IsWholeStack frames false = (trees : List Tree) (u : Tree) → outermost (stack_of frames trees) u ≡ None

-- a tree is a name, or an assignment's sign can't follow it
abbrev pub IsNameOf : Tree → Bool → Type 0
IsNameOf u true = u ≡ Variable (name_of u)
IsNameOf u false = (op : AssignmentOperator) (bs : List Begun) → take_assign op bs u ≡ None

-- a parser got one part more, which is its operand; or no memory was left
abbrev pub HoldsMore : Part → Parser → Result (Unit {0}) ReadFault → Parser → Type 0
HoldsMore p old (Ok done) new =
    (new.frames ≡ old.frames) × (new.parts ≡ old.parts ++ (p ∷ [])) × (new.held ≡ true)
HoldsMore p old (Err fault) new = IsMemory fault

-- the constructs and the operand are what has settled, or no memory was left
abbrev pub SettlesTo : Settled → Result (Unit {0}) ReadFault → List Begun → Tree → Type 0
SettlesTo settled (Ok done) begun operand = settled ≡ record { begun = begun; operand = operand }
SettlesTo settled (Err fault) begun operand = IsMemory fault

-- the parser's answer after a token: it is in the state that the token leads to, or the token doesn't fit, or no memory
-- was left
abbrev pub LeadsTo : Option State → Result Bool ReadFault → State → Type 0
LeadsTo next (Ok true) new = next ≡ Some new
LeadsTo next (Ok false) new = next ≡ None
LeadsTo next (Err fault) new = IsMemory fault

-- the parser's answer at the end: it has the tree, or there is none, or no memory was left
abbrev pub ClosesTo : Option Tree → Result Bool ReadFault → Tree → Type 0
ClosesTo tree (Ok true) u = tree ≡ Some u
ClosesTo tree (Ok false) u = tree ≡ None
ClosesTo tree (Err fault) u = IsMemory fault
