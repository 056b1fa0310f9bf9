use Rattle.std.proofs.Common.{rules, arith, ◌≡◌, ◌≢◌, ◌∷◌, ◌<◌, [], length, append-nil, take, drop, ap}
use Rattle.sql_cells.specs.Parts.{IsParted, part_len}
use Rattle.sql_cells.proofs.PartLemmas.{part_kept}
use Rattle.sql_cells.proofs.StatementLemmas.{nothing}
use Rattle.sql_cells.proofs.cut.cut.Goals as goal

pub parts-preserved : goal.parts-preserved
parts-preserved c = λ tail parted.
    let some : c.parts.rest.now ≢ [] = λ none. let long : 0 < length c.parts.rest.now = search rules in
    let none_long = ap length none in omega (arith, long, none_long) in
    let first : c.split_at.result.0.now ≡ take (part_len c.parts.rest.now) c.parts.rest.now =
    rw (← c.part_len.ensures.value) c.split_at.ensures.front in
    let more : IsParted (drop (part_len c.parts.rest.now) c.parts.rest.now) tail =
    rw (← c.part_len.ensures.value, ← c.split_at.ensures.back) parted in
    let all = c.parts.invariant (c.split_at.result.0.now ∷ tail) (some, first, more) in (
      all.0,
      all.1,
      part_kept c.parts.pieces.items c.keep.new.pieces.items c.split_at.result.0.now tail all.0
          c.in_ok-keep.ensures all.2,
    )

pub returns : goal.returns
returns c =
    let short : length c.parts.rest.now ≡ 0 = search rules in
    let all = c.parts.invariant [] (nothing _ short) in
    (all.0, all.1, rw append-nil at all.2)
