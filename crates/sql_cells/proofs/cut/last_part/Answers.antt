use Rattle.std.proofs.Common.{rules, arith, ◌≡◌, ◌≢◌, ◌∷◌, ◌<◌, [], length, take, drop, ap}
use Rattle.sql_cells.specs.Parts.{IsParted, part_len}
use Rattle.sql_cells.proofs.StatementLemmas.{nothing}
use Rattle.sql_cells.proofs.cut.last_part.Goals as goal

pub parts-preserved : goal.parts-preserved
parts-preserved c = λ tail parted.
    let rest = c.parts.rest.now in
    let some : c.parts.rest.now ≢ [] = λ none. let long : 0 < length c.parts.rest.now = search rules in
    let none_long = ap length none in omega (arith, long, none_long) in
    let first : c.split_at.result.0.now ≡ take (part_len c.parts.rest.now) c.parts.rest.now =
    rw (← c.part_len.ensures.value) c.split_at.ensures.front in
    let more : IsParted (drop (part_len c.parts.rest.now) c.parts.rest.now) tail =
    rw (← c.part_len.ensures.value, ← c.split_at.ensures.back) parted in
    c.parts.invariant (c.split_at.result.0.now ∷ tail) (some, first, more)

pub returns : goal.returns
returns c =
    let short : length c.parts.rest.now ≡ 0 = search rules in
    c.parts.invariant [] (nothing _ short)
