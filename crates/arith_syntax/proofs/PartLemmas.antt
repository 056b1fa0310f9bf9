-- What parts more make of the state of a parser.
use Rattle.std.proofs.Common.{◌≡◌, ℕ, ◌≤◌, ◌-◌, Bool, true, Ok, List, [], ◌∷◌, ◌++◌, length, map, Option, Some, None}
use Rattle.std.proofs.Common.{refl, sym, ap, ◌∙◌}
use Rattle.std.proofs.lemmas.List.{length-map}
use Rattle.std.proofs.lemmas.Option.{slice_get-map}
use Rattle.std.specs.List.{slice_get}
use Rattle.std.specs.Option.{option_map}
use Rattle.arith_syntax.specs.declared.mark.Mark.{Mark}
use Rattle.arith_syntax.specs.declared.parser.Frame.{Frame}
use Rattle.arith_syntax.specs.declared.parser.Frame.TheVariants as frame
use Rattle.arith_syntax.specs.declared.parser.Parser.{Parser}
use Rattle.arith_syntax.specs.declared.part.Part.{Part}
use Rattle.arith_syntax.specs.declared.part.Part.TheVariants as part
use Rattle.arith_syntax.specs.Grammar.{Tree}
use Rattle.arith_syntax.specs.Machine.{Begun, HoldsMore, IsBuilt, IsNameOf, begun_by, begun_of, left_by, rank}
use Rattle.arith_syntax.specs.Machine.{around, settle, stack_of, take_close, state_at, state_of, turned}
use Rattle.arith_syntax.specs.Packed.{mark_of}
use Rattle.arith_syntax.specs.Parts.{before, grown, last, tree_of, trees_in}
use Rattle.arith_syntax.proofs.TreeLemmas.{assembled-push, parts-last}
use Rattle.arith_syntax.proofs.MachineLemmas.{settle_ends}

-- the last part says whether the tree is a name
name_last : (text : List ℕ) (ps : List Part) (p : Part) (is : Bool) → Some p ≡ slice_get ps (length ps - 1)
    → ((text : List ℕ) (trees : List Tree) → IsNameOf (last (grown text p trees)) is) → IsNameOf (tree_of text ps) is
name_last text ps p is ends says =
    let front = parts-last ps p ends in
    rw (front.1, assembled-push text [] front.0 p) (says text (trees_in text front.0))

-- the last part, if there is one, says whether the tree is a name
name_by_found : (text : List ℕ) (row : List Part) (found : Option Part) (m : Mark) (is : Bool)
    → found ≡ slice_get row (length row - 1) → Some m ≡ option_map mark_of found
    → ((p : Part) → mark_of p ≡ m → (text : List ℕ) (trees : List Tree) → IsNameOf (last (grown text p trees)) is)
    → IsNameOf (tree_of text row) is
name_by_found text row None m is ends marked says = absurd (cc)
name_by_found text row (Some p) m is ends marked says =
    let same : mark_of p ≡ m = cc in name_last text row p is ends (says p same)

-- the last mark says whether the tree is a name
pub name_by_mark : (text : List ℕ) (row : List Part) (marks : List Mark) (m : Mark) (is : Bool)
    → marks ≡ map mark_of row → Some m ≡ slice_get marks (length marks - 1)
    → ((p : Part) → mark_of p ≡ m → (text : List ℕ) (trees : List Tree) → IsNameOf (last (grown text p trees)) is)
    → IsNameOf (tree_of text row) is
name_by_mark text row marks m is kept ends says =
    let size : length marks ≡ length row = ap length kept ∙ length-map row mark_of in
    let found : Some m ≡ option_map mark_of (slice_get row (length row - 1)) =
    ends ∙ ap (λ (ms : List Mark). slice_get ms (length marks - 1)) kept
    ∙ slice_get-map mark_of row (length marks - 1)
    ∙ ap (λ n. option_map mark_of (slice_get row (n - 1))) size in
    name_by_found text row (slice_get row (length row - 1)) m is refl found says

-- one construct that ends leaves what settles the same
pub settled_one : (weak : ℕ) (text : List ℕ) (old new : List Frame) (f : Frame) (ps : List Part) (p : Part) → turned old
    ≡ f ∷ turned new → ((trees : List Tree) → rank (begun_of f trees) ≤ weak) → IsBuilt f p
    → settle weak (stack_of new (before (trees_in text (ps ++ p ∷ [])))) (tree_of text (ps ++ p ∷ []))
    ≡ settle weak (stack_of old (before (trees_in text ps))) (tree_of text ps)
settled_one weak text old new f ps p popped strong is =
    let trees : List Tree = trees_in text ps in
    let b : Begun = begun_of f (before trees) in
    rw (popped, assembled-push text [] ps p, is text trees)
    (sym (settle_ends weak b (begun_by (turned new) (left_by f (before trees))) (last trees) (strong (before trees))))

-- the state after a part more behind which an operand was read
pub state_held : (text : List ℕ) (old new : Parser) (p : Part) → HoldsMore p old (Ok tt) new → state_of text new
    ≡ state_at old.frames.items true (grown text p (trees_in text old.parts))
state_held text old new p more =
    rw (more.0, more.1, more.2, assembled-push text [] old.parts p) refl

-- the state behind a `)`
pub state_closed : (text : List ℕ) (old popped new : Parser) → turned old.frames.items
    ≡ frame.Open ∷ turned popped.frames.items → popped.parts ≡ old.parts → HoldsMore part.Group popped (Ok tt) new
    → take_close (around text old) (tree_of text old.parts) ≡ Some (state_of text new)
state_closed text old popped new opens same more =
    rw (state_held text popped new part.Group more, opens, same) refl
