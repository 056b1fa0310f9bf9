use Rattle.std.proofs.Common.{rules, arith, ◌≡◌, ◌≢◌, ◌∷◌, ◌<◌, [], length, take, drop, ap}
use Rattle.sql_cells.specs.Parts.{IsSplit, thing_len}
use Rattle.sql_cells.proofs.StatementLemmas.{nothing}
use Rattle.sql_cells.proofs.cut.last_solid.Goals as goal

pub things-preserved : goal.things-preserved
things-preserved c = λ tail split.
    let rest = c.things.rest.now in
    let some : c.things.rest.now ≢ [] = λ none. let long : 0 < length c.things.rest.now = search rules in
    let none_long = ap length none in omega (arith, long, none_long) in
    let first : c.split_at.result.0.now ≡ take (thing_len c.things.rest.now) c.things.rest.now =
    rw (← c.thing_len.ensures.value) c.split_at.ensures.front in
    let more : IsSplit (drop (thing_len c.things.rest.now) c.things.rest.now) tail =
    rw (← c.thing_len.ensures.value, ← c.split_at.ensures.back) split in
    rw c.solid_or-last.ensures (c.things.invariant (c.split_at.result.0.now ∷ tail) (some, first, more))

pub returns : goal.returns
returns c =
    let short : length c.things.rest.now ≡ 0 = search rules in
    c.things.invariant [] (nothing _ short)
