use Rattle.std.proofs.Common.{◌≡◌, ◌≤◌, sym, ◌∙◌, arith, rules}
use Rattle.std.proofs.lemmas.List.{take_rest}
use Rattle.sql_cells.specs.Parts.{gap_len}
use Rattle.sql_cells.proofs.PartLemmas.{gaps_stop, gaps_go}
use Rattle.sql_cells.proofs.gaps.past_gaps.Goals as goal

pub returns-then-gap-eq0-clause-value : goal.returns-then-gap-eq0-clause-value
returns-then-gap-eq0-clause-value c =
    let none : gap_len c.gaps.rest.now ≡ 0 = omega (arith, c.gap_len-gap.ensures.value, c.if-gap-eq0.true) in
    sym (gaps_stop c.gaps.rest.now none) ∙ c.gaps.invariant.0

pub gaps-preserved : goal.gaps-preserved
gaps-preserved c =
    let rest = c.gaps.rest.now in
    let moves : 1 ≤ gap_len c.gaps.rest.now = omega (arith, c.gap_len-gap.ensures.value, c.if-gap-eq0.false) in
    let goes = gaps_go rest moves in
    (rw (take_rest rest c.gap_len-gap.result, c.gap_len-gap.ensures.value) (goes ∙ c.gaps.invariant.0), search rules)
