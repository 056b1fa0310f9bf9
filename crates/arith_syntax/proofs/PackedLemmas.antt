-- What is kept of parts and of trees, with one more and without the first.
use Rattle.std.proofs.Common.{◌≡◌, ◌≢◌, ℕ, Bool, true, false, List, [], ◌∷◌, ◌++◌, length, drop, map, take}
use Rattle.std.proofs.Common.{refl, sym, ap, subst, ◌∙◌}
use Rattle.std.proofs.Common.{append-nil, true≢false}
use Rattle.std.proofs.lemmas.List.{length-map, map-append}
use Rattle.std.proofs.lemmas.Grind.{flat_map-append}
use Rattle.std.proofs.Math.Seq.{drop-append_seam, take-append_seam}
use Rattle.std.specs.Bool.{nat_lt}
use Rattle.std.specs.List.{flat_map}
use Rattle.arith_syntax.specs.declared.mark.Mark.{Mark}
use Rattle.arith_syntax.specs.declared.mark.Mark.TheVariants as mark
use Rattle.arith_syntax.specs.declared.operator.AssignmentOperator.{AssignmentOperator}
use Rattle.arith_syntax.specs.declared.part.Part.{Part}
use Rattle.arith_syntax.specs.declared.part.Part.TheVariants as part
use Rattle.arith_syntax.specs.declared.trees.Size.{Size}
use Rattle.arith_syntax.specs.Packed.{AreKept, IsKept, IsNoAssignment, is_assignment_mark, mark_of, narrow_left}
use Rattle.arith_syntax.specs.Packed.{narrow_part, next_number, number_if, number_unless, parts_in, rows_in}
use Rattle.arith_syntax.specs.Packed.{size_kept, wide_left, wide_part, width_by}

-- marks and numbers are read as parts, whatever numbers stand behind
abbrev IsReadAs : List Part → List Mark → List ℕ → List ℕ → Type 0
IsReadAs row marks narrow wide =
    (below above : List ℕ) → parts_in marks (narrow ++ below) (wide ++ above) ≡ row

-- a constant in front of parts is read
constant_read : (small : Bool) (n : ℕ) (row : List Part) (marks : List Mark) (narrow wide : List ℕ)
    → IsReadAs row marks narrow wide
    → IsReadAs (part.Constant n ∷ row) (mark.Constant (width_by small) ∷ marks) (number_if small n ++ narrow)
    (number_unless small n ++ wide)
constant_read true n row marks narrow wide is below above =
    ap (λ (l : List Part). part.Constant n ∷ l) (is below above)
constant_read false n row marks narrow wide is below above =
    ap (λ (l : List Part). part.Constant n ∷ l) (is below above)

-- a variable in front of parts is read
variable_read : (small : Bool) (n : ℕ) (row : List Part) (marks : List Mark) (narrow wide : List ℕ)
    → IsReadAs row marks narrow wide
    → IsReadAs (part.Variable n ∷ row) (mark.Variable (width_by small) ∷ marks) (number_if small n ++ narrow)
    (number_unless small n ++ wide)
variable_read true n row marks narrow wide is below above =
    ap (λ (l : List Part). part.Variable n ∷ l) (is below above)
variable_read false n row marks narrow wide is below above =
    ap (λ (l : List Part). part.Variable n ∷ l) (is below above)

-- parts are read as they are
row_read : (row : List Part) → IsReadAs row (map mark_of row) (flat_map narrow_part row) (flat_map wide_part row)
row_read [] below above = refl
row_read (part.Constant n ∷ row) below above =
    constant_read (nat_lt n 4294967296) n row (map mark_of row) (flat_map narrow_part row) (flat_map wide_part row)
    (row_read row) below above
row_read (part.Variable n ∷ row) below above =
    variable_read (nat_lt n 4294967296) n row (map mark_of row) (flat_map narrow_part row) (flat_map wide_part row)
    (row_read row) below above
row_read (part.Group ∷ row) below above = ap (λ (l : List Part). part.Group ∷ l) (row_read row below above)
row_read (part.Unary op ∷ row) below above = ap (λ (l : List Part). part.Unary op ∷ l) (row_read row below above)
row_read (part.Binary op ∷ row) below above = ap (λ (l : List Part). part.Binary op ∷ l) (row_read row below above)
row_read (part.Conditional ∷ row) below above = ap (λ (l : List Part). part.Conditional ∷ l) (row_read row below above)
row_read (part.Assignment op ∷ row) below above =
    ap (λ (l : List Part). part.Assignment op ∷ l) (row_read row below above)

-- what is kept of parts is read as them
read_of : (row : List Part) (marks : List Mark) (narrow wide : List ℕ) → IsKept row marks narrow wide
    → parts_in marks narrow wide ≡ row
read_of row marks narrow wide kept =
    rw (kept.marks, kept.narrow, kept.wide)
    (ap (λ (l : List ℕ). parts_in (map mark_of row) l (flat_map wide_part row))
    (sym (append-nil (flat_map narrow_part row)))
    ∙ ap (parts_in (map mark_of row) (flat_map narrow_part row ++ [])) (sym (append-nil (flat_map wide_part row)))
    ∙ row_read row [] [])

-- what is kept of parts with one part more
more_kept : (row : List Part) (p : Part) (marks more_marks : List Mark) (narrow more_narrow wide more_wide : List ℕ)
    → IsKept row marks narrow wide → more_marks ≡ marks ++ mark_of p ∷ [] → more_narrow ≡ narrow ++ narrow_part p
    → more_wide ≡ wide ++ wide_part p → IsKept (row ++ p ∷ []) more_marks more_narrow more_wide
more_kept row p marks more_marks narrow more_narrow wide more_wide kept marked narrowed widened = record {
  marks = marked ∙ ap (λ (l : List Mark). l ++ mark_of p ∷ []) kept.marks ∙ sym (map-append mark_of row (p ∷ []));
  narrow = narrowed ∙ ap (λ (l : List ℕ). l ++ narrow_part p) kept.narrow
      ∙ ap (λ (l : List ℕ). flat_map narrow_part row ++ l) (sym (append-nil (narrow_part p)))
      ∙ sym (flat_map-append narrow_part row (p ∷ []));
  wide = widened ∙ ap (λ (l : List ℕ). l ++ wide_part p) kept.wide
      ∙ ap (λ (l : List ℕ). flat_map wide_part row ++ l) (sym (append-nil (wide_part p)))
      ∙ sym (flat_map-append wide_part row (p ∷ []));
}

-- a part was put behind others: these are the parts that are read, and what is kept of them
pub part_put : (marks more_marks : List Mark) (narrow more_narrow wide more_wide : List ℕ) (p : Part)
    → IsKept (parts_in marks narrow wide) marks narrow wide → more_marks ≡ marks ++ mark_of p ∷ []
    → more_narrow ≡ narrow ++ narrow_part p → more_wide ≡ wide ++ wide_part p
    → (parts_in more_marks more_narrow more_wide ≡ parts_in marks narrow wide ++ p ∷ [])
    × IsKept (parts_in more_marks more_narrow more_wide) more_marks more_narrow more_wide
part_put marks more_marks narrow more_narrow wide more_wide p kept marked narrowed widened =
    let row : List Part = parts_in marks narrow wide in
    let more : IsKept (row ++ p ∷ []) more_marks more_narrow more_wide =
    more_kept row p marks more_marks narrow more_narrow wide more_wide kept marked narrowed widened in
    let is : parts_in more_marks more_narrow more_wide ≡ row ++ p ∷ [] =
    read_of (row ++ p ∷ []) more_marks more_narrow more_wide more in
    (is, subst (λ (l : List Part). IsKept l more_marks more_narrow more_wide) (sym is) more)

-- a part without a number, read behind others
behind : (marks : List Mark) (narrow wide : List ℕ) (m : Mark) (p : Part)
    → ((narrow wide : List ℕ) → parts_in (m ∷ []) narrow wide ≡ p ∷ [])
    → parts_in (marks ++ m ∷ []) narrow wide ≡ parts_in marks narrow wide ++ p ∷ []
behind [] narrow wide m p is = is narrow wide
behind (mark.Constant width ∷ marks) narrow wide m p is =
    ap (λ (l : List Part). part.Constant (next_number width narrow wide) ∷ l)
    (behind marks (narrow_left width narrow) (wide_left width wide) m p is)
behind (mark.Variable width ∷ marks) narrow wide m p is =
    ap (λ (l : List Part). part.Variable (next_number width narrow wide) ∷ l)
    (behind marks (narrow_left width narrow) (wide_left width wide) m p is)
behind (mark.Group ∷ marks) narrow wide m p is =
    ap (λ (l : List Part). part.Group ∷ l) (behind marks narrow wide m p is)
behind (mark.Unary op ∷ marks) narrow wide m p is =
    ap (λ (l : List Part). part.Unary op ∷ l) (behind marks narrow wide m p is)
behind (mark.Binary op ∷ marks) narrow wide m p is =
    ap (λ (l : List Part). part.Binary op ∷ l) (behind marks narrow wide m p is)
behind (mark.Conditional ∷ marks) narrow wide m p is =
    ap (λ (l : List Part). part.Conditional ∷ l) (behind marks narrow wide m p is)
behind (mark.Assignment op ∷ marks) narrow wide m p is =
    ap (λ (l : List Part). part.Assignment op ∷ l) (behind marks narrow wide m p is)

-- whether a part is an assignment
abbrev is_assignment : Part → Bool
is_assignment (part.Assignment op) = true
is_assignment _ = false

-- the last of some answers, and `b` if there is none
abbrev last_answer : Bool → List Bool → Bool
last_answer b [] = b
last_answer b (c ∷ bs) = last_answer c bs

-- what stands last is the last
last_is : (b : Bool) (bs : List Bool) (c : Bool) → last_answer b (bs ++ c ∷ []) ≡ c
last_is b [] c = refl
last_is b (d ∷ bs) c = last_is d bs c

-- the parts that are read are assignments where the marks are theirs
assignments_read : (marks : List Mark) (narrow wide : List ℕ)
    → map is_assignment (parts_in marks narrow wide) ≡ map is_assignment_mark marks
assignments_read [] narrow wide = refl
assignments_read (mark.Constant width ∷ marks) narrow wide =
    ap (λ (l : List Bool). false ∷ l) (assignments_read marks (narrow_left width narrow) (wide_left width wide))
assignments_read (mark.Variable width ∷ marks) narrow wide =
    ap (λ (l : List Bool). false ∷ l) (assignments_read marks (narrow_left width narrow) (wide_left width wide))
assignments_read (mark.Group ∷ marks) narrow wide =
    ap (λ (l : List Bool). false ∷ l) (assignments_read marks narrow wide)
assignments_read (mark.Unary op ∷ marks) narrow wide =
    ap (λ (l : List Bool). false ∷ l) (assignments_read marks narrow wide)
assignments_read (mark.Binary op ∷ marks) narrow wide =
    ap (λ (l : List Bool). false ∷ l) (assignments_read marks narrow wide)
assignments_read (mark.Conditional ∷ marks) narrow wide =
    ap (λ (l : List Bool). false ∷ l) (assignments_read marks narrow wide)
assignments_read (mark.Assignment op ∷ marks) narrow wide =
    ap (λ (l : List Bool). true ∷ l) (assignments_read marks narrow wide)

-- what another mark than an assignment's ends is no assignment
pub no_assignment : (marks rest : List Mark) (m : Mark) (narrow wide : List ℕ) → marks ≡ rest ++ m ∷ []
    → is_assignment_mark m ≡ false → IsNoAssignment (parts_in marks narrow wide)
no_assignment marks rest m narrow wide ends other place op operand is =
    let marked : last_answer false (map is_assignment_mark marks) ≡ false =
    ap (λ ms. last_answer false (map is_assignment_mark ms)) ends
    ∙ ap (last_answer false) (map-append is_assignment_mark rest (m ∷ []))
    ∙ last_is false (map is_assignment_mark rest) (is_assignment_mark m) ∙ other in
    let read : last_answer false (map is_assignment (parts_in marks narrow wide)) ≡ true =
    ap (λ ps. last_answer false (map is_assignment ps)) is
    ∙ ap (last_answer false) (map-append is_assignment (part.Variable place ∷ operand) (part.Assignment op ∷ []))
    ∙ last_is false (map is_assignment (part.Variable place ∷ operand)) true in
    true≢false (sym read ∙ ap (last_answer false) (assignments_read marks narrow wide) ∙ marked)

-- the first of some parts, and `p` if there is none
abbrev first_part : Part → List Part → Part
first_part p [] = p
first_part p (q ∷ row) = q

-- what doesn't begin with a name is no assignment
pub begins_otherwise : (row more : List Part) (p : Part) → row ≡ p ∷ more
    → ((place : ℕ) → p ≢ part.Variable place) → IsNoAssignment row
begins_otherwise row more p begins other place op operand is =
    other place (ap (first_part p) (sym begins ∙ is))

-- an operator that assigns is no name
pub operator_alone : (row : List Part) (op : AssignmentOperator) → row ≡ part.Assignment op ∷ [] → IsNoAssignment row
operator_alone row op alone =
    begins_otherwise row [] (part.Assignment op) alone (λ place is. true≢false (ap is_assignment is))

-- the parts of a tree that assigns, whose last mark is taken off
pub before_operator : (marks rest : List Mark) (m : Mark) (op : AssignmentOperator) (narrow wide : List ℕ)
    (row : List Part) → marks ≡ rest ++ m ∷ [] → m ≡ mark.Assignment op → parts_in rest narrow wide ≡ row
    → parts_in marks narrow wide ≡ row ++ part.Assignment op ∷ []
before_operator marks rest m op narrow wide row ends assigns is =
    ap (λ ms. parts_in ms narrow wide) (ends ∙ ap (λ (m : Mark). rest ++ m ∷ []) assigns)
    ∙ behind rest narrow wide (mark.Assignment op) (part.Assignment op) (λ narrow wide. refl)
    ∙ ap (λ (l : List Part). l ++ part.Assignment op ∷ []) is

-- trees are read as they are
rows_read : (rows : List (List Part))
    → rows_in (map size_kept rows) (flat_map (map mark_of) rows) (flat_map (flat_map narrow_part) rows)
    (flat_map (flat_map wide_part) rows) ≡ rows
rows_read [] = refl
rows_read (row ∷ rows) =
    let marks : List Mark = map mark_of row in
    let narrow : List ℕ = flat_map narrow_part row in
    let wide : List ℕ = flat_map wide_part row in
    let more_marks : List Mark = flat_map (map mark_of) rows in
    let more_narrow : List ℕ = flat_map (flat_map narrow_part) rows in
    let more_wide : List ℕ = flat_map (flat_map wide_part) rows in
    let size : length row ≡ length marks = sym (length-map row mark_of) in
    let taken : take (length row) (marks ++ more_marks) ≡ marks =
    ap (λ (n : ℕ). take n (marks ++ more_marks)) size ∙ take-append_seam marks more_marks in
    let left : drop (length row) (marks ++ more_marks) ≡ more_marks =
    ap (λ (n : ℕ). drop n (marks ++ more_marks)) size ∙ drop-append_seam marks more_marks in
    rw (
      taken,
      left,
      drop-append_seam narrow more_narrow,
      drop-append_seam wide more_wide,
      row_read row more_narrow more_wide,
      rows_read rows,
    ) refl

-- what is kept of trees is read as them
rows_of_kept : (rows : List (List Part)) (sizes : List Size) (marks : List Mark) (narrow wide : List ℕ)
    → AreKept rows sizes marks narrow wide → rows_in sizes marks narrow wide ≡ rows
rows_of_kept rows sizes marks narrow wide kept =
    rw (kept.sizes_are, kept.marks, kept.narrow, kept.wide) (rows_read rows)

-- what is kept of trees with one tree more
more_trees : (rows : List (List Part)) (row : List Part) (sizes more_sizes : List Size) (marks its_marks : List Mark)
    (narrow its_narrow wide its_wide : List ℕ) (size : Size)
    → AreKept rows sizes marks narrow wide → IsKept row its_marks its_narrow its_wide
    → more_sizes ≡ sizes ++ size ∷ []
    → size ≡ record { marks = length its_marks; narrow = length its_narrow; wide = length its_wide }
    → AreKept (rows ++ row ∷ []) more_sizes (marks ++ its_marks) (narrow ++ its_narrow) (wide ++ its_wide)
more_trees rows row sizes more_sizes marks its_marks narrow its_narrow wide its_wide size kept its sized is =
    let measured : size ≡ size_kept row =
    rw (is, its.marks, its.narrow, its.wide, length-map row mark_of) refl in
    record {
      sizes_are = sized ∙ ap (λ (s : Size). sizes ++ s ∷ []) measured
          ∙ ap (λ (l : List Size). l ++ size_kept row ∷ []) kept.sizes_are
          ∙ sym (map-append size_kept rows (row ∷ []));
      marks = rw (kept.marks, its.marks, flat_map-append (map mark_of) rows (row ∷ []), append-nil (map mark_of row))
          refl;
      narrow = rw (
        kept.narrow,
        its.narrow,
        flat_map-append (flat_map narrow_part) rows (row ∷ []),
        append-nil (flat_map narrow_part row),
      ) refl;
      wide = rw (
        kept.wide,
        its.wide,
        flat_map-append (flat_map wide_part) rows (row ∷ []),
        append-nil (flat_map wide_part row),
      ) refl;
    }

-- A tree was put behind others: these are the trees that are read, and what is kept of them.
pub tree_put : (row : List Part) (sizes more_sizes : List Size) (marks its_marks : List Mark)
    (narrow its_narrow wide its_wide : List ℕ) (size : Size)
    → AreKept (rows_in sizes marks narrow wide) sizes marks narrow wide → IsKept row its_marks its_narrow its_wide
    → more_sizes ≡ sizes ++ size ∷ []
    → size ≡ record { marks = length its_marks; narrow = length its_narrow; wide = length its_wide }
    → (rows_in more_sizes (marks ++ its_marks) (narrow ++ its_narrow) (wide ++ its_wide)
    ≡ rows_in sizes marks narrow wide ++ row ∷ [])
    × AreKept (rows_in more_sizes (marks ++ its_marks) (narrow ++ its_narrow) (wide ++ its_wide)) more_sizes
    (marks ++ its_marks) (narrow ++ its_narrow) (wide ++ its_wide)
tree_put row sizes more_sizes marks its_marks narrow its_narrow wide its_wide size kept its sized is =
    let rows : List (List Part) = rows_in sizes marks narrow wide in
    let more : AreKept (rows ++ row ∷ []) more_sizes (marks ++ its_marks) (narrow ++ its_narrow) (wide ++ its_wide) =
    more_trees rows row sizes more_sizes marks its_marks narrow its_narrow wide its_wide size kept its sized is in
    let read : rows_in more_sizes (marks ++ its_marks) (narrow ++ its_narrow) (wide ++ its_wide) ≡ rows ++ row ∷ [] =
    rows_of_kept (rows ++ row ∷ []) more_sizes (marks ++ its_marks) (narrow ++ its_narrow) (wide ++ its_wide) more in (
      read,
      subst (λ (l : List (List Part)). AreKept l more_sizes (marks ++ its_marks) (narrow ++ its_narrow)
          (wide ++ its_wide)) (sym read) more,
    )
