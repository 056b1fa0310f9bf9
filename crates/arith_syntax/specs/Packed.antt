-- Parts in little memory: of each part its mark, and its number apart.
use Rattle.std.specs.Prelude.{◌≡◌, ◌≢◌, ℕ, Bool, true, false, List, [], ◌∷◌, ◌++◌, drop, length, map, take, Option}
use Rattle.std.specs.Prelude.{Some, None}
use Rattle.std.specs.Bool.{nat_lt}
use Rattle.std.specs.List.{flat_map}
use Rattle.arith_syntax.specs.declared.mark.Mark.{Mark}
use Rattle.arith_syntax.specs.declared.mark.Mark.TheVariants as mark
use Rattle.arith_syntax.specs.declared.mark.Width.{Width}
use Rattle.arith_syntax.specs.declared.mark.Width.TheVariants.{Narrow, Wide}
use Rattle.arith_syntax.specs.declared.operator.AssignmentOperator.{AssignmentOperator}
use Rattle.arith_syntax.specs.declared.part.Part.{Part}
use Rattle.arith_syntax.specs.declared.part.Part.TheVariants as part
use Rattle.arith_syntax.specs.declared.parts.PartsRef.{PartsRef}
use Rattle.arith_syntax.specs.declared.trees.Size.{Size}

-- among which numbers one is kept, if it is below 2^32 or isn't
abbrev pub width_by : Bool → Width
width_by true = Narrow
width_by false = Wide

-- among which numbers one is kept
abbrev pub width_of : ℕ → Width
width_of n = width_by (nat_lt n 4294967296)

-- a number, if a test holds
abbrev pub number_if : Bool → ℕ → List ℕ
number_if true n = n ∷ []
number_if false n = []

-- a number, if a test doesn't hold
abbrev pub number_unless : Bool → ℕ → List ℕ
number_unless true n = []
number_unless false n = n ∷ []

-- what is kept of a number among those below 2^32
abbrev pub narrow_number : ℕ → List ℕ
narrow_number n = number_if (nat_lt n 4294967296) n

-- what is kept of a number among the others
abbrev pub wide_number : ℕ → List ℕ
wide_number n = number_unless (nat_lt n 4294967296) n

-- the mark of a part
abbrev pub mark_of : Part → Mark
mark_of (part.Constant n) = mark.Constant (width_of n)
mark_of (part.Variable place) = mark.Variable (width_of place)
mark_of part.Group = mark.Group
mark_of (part.Unary op) = mark.Unary op
mark_of (part.Binary op) = mark.Binary op
mark_of part.Conditional = mark.Conditional
mark_of (part.Assignment op) = mark.Assignment op

-- what is kept of a part's number among those below 2^32
abbrev pub narrow_part : Part → List ℕ
narrow_part (part.Constant n) = narrow_number n
narrow_part (part.Variable place) = narrow_number place
narrow_part _ = []

-- what is kept of a part's number among the others
abbrev pub wide_part : Part → List ℕ
wide_part (part.Constant n) = wide_number n
wide_part (part.Variable place) = wide_number place
wide_part _ = []

-- the first of some numbers, or 0
abbrev pub first_number : List ℕ → ℕ
first_number [] = 0
first_number (n ∷ numbers) = n

-- the next number, by where it is kept
abbrev pub next_number : Width → List ℕ → List ℕ → ℕ
next_number Narrow narrow wide = first_number narrow
next_number Wide narrow wide = first_number wide

-- what is left of the numbers below 2^32 after the next number
abbrev pub narrow_left : Width → List ℕ → List ℕ
narrow_left Narrow narrow = drop 1 narrow
narrow_left Wide narrow = narrow

-- what is left of the other numbers after the next number
abbrev pub wide_left : Width → List ℕ → List ℕ
wide_left Narrow wide = wide
wide_left Wide wide = drop 1 wide

-- the parts that marks and numbers are read as
abbrev pub parts_in : List Mark → List ℕ → List ℕ → List Part
parts_in [] narrow wide = []
parts_in (mark.Constant width ∷ marks) narrow wide =
    part.Constant (next_number width narrow wide) ∷ parts_in marks (narrow_left width narrow) (wide_left width wide)
parts_in (mark.Variable width ∷ marks) narrow wide =
    part.Variable (next_number width narrow wide) ∷ parts_in marks (narrow_left width narrow) (wide_left width wide)
parts_in (mark.Group ∷ marks) narrow wide = part.Group ∷ parts_in marks narrow wide
parts_in (mark.Unary op ∷ marks) narrow wide = part.Unary op ∷ parts_in marks narrow wide
parts_in (mark.Binary op ∷ marks) narrow wide = part.Binary op ∷ parts_in marks narrow wide
parts_in (mark.Conditional ∷ marks) narrow wide = part.Conditional ∷ parts_in marks narrow wide
parts_in (mark.Assignment op ∷ marks) narrow wide = part.Assignment op ∷ parts_in marks narrow wide

-- the parts that are lent
abbrev pub parts_of : PartsRef → List Part
parts_of parts = parts_in parts.marks.now parts.narrow.now parts.wide.now

-- these marks and numbers are kept of parts, and no others
pub record IsKept (row : List Part) (kept : List Mark) (below above : List ℕ) : Type 0 where
  pub marks : kept ≡ map mark_of row
  pub narrow : below ≡ flat_map narrow_part row
  pub wide : above ≡ flat_map wide_part row

-- the first of some parts was taken, or there is none
abbrev pub GoesOn : List Part → Option Part → List Part → Type 0
GoesOn old None new = (old ≡ []) × (new ≡ [])
GoesOn old (Some p) new = old ≡ p ∷ new

-- whether a mark is that of an assignment
abbrev pub is_assignment_mark : Mark → Bool
is_assignment_mark (mark.Assignment op) = true
is_assignment_mark _ = false

-- some parts don't begin with a name and end with an operator that assigns
abbrev pub IsNoAssignment : List Part → Type 0
IsNoAssignment row = (place : ℕ) (op : AssignmentOperator) (operand : List Part)
    → row ≢ part.Variable place ∷ (operand ++ part.Assignment op ∷ [])

-- how many the marks and numbers are that are lent
abbrev pub size_of : PartsRef → Size
size_of parts = record {
  marks = length parts.marks.now;
  narrow = length parts.narrow.now;
  wide = length parts.wide.now;
}

-- how much is kept of a tree, which is given by its parts
abbrev pub size_kept : List Part → Size
size_kept row = record {
  marks = length row;
  narrow = length (flat_map narrow_part row);
  wide = length (flat_map wide_part row);
}

-- the trees that marks and numbers are read as, by how much is kept of each
abbrev pub rows_in : List Size → List Mark → List ℕ → List ℕ → List (List Part)
rows_in [] marks narrow wide = []
rows_in (size ∷ sizes) marks narrow wide =
    parts_in (take size.marks marks) narrow wide
    ∷ rows_in sizes (drop size.marks marks) (drop size.narrow narrow) (drop size.wide wide)

-- these marks and numbers are kept of trees, one tree after the other
pub record AreKept (rows : List (List Part)) (sizes : List Size) (kept : List Mark) (below above : List ℕ)
    : Type 0 where
  pub sizes_are : sizes ≡ map size_kept rows
  pub marks : kept ≡ flat_map (map mark_of) rows
  pub narrow : below ≡ flat_map (flat_map narrow_part) rows
  pub wide : above ≡ flat_map (flat_map wide_part) rows

-- the parts of the first tree are lent, or there is none
abbrev pub IsFirst : List (List Part) → Option PartsRef → Type 0
IsFirst rows None = rows ≡ []
IsFirst rows (Some parts) = rows ≡ parts_of parts ∷ drop 1 rows
