use Rattle.std.proofs.Common.{◌≡◌, ◌+◌, ◌*◌, ◌^◌, ◌<◌}
use Rattle.arith_syntax.proofs.NumberLemmas.{number_more, number_too_great}
use Rattle.arith_syntax.proofs.constant.number.Goals as goal

pub returns-in_err-value : goal.returns-in_err-value
returns-in_err-value c =
    rw c.from_residual-in_err-value.ensures
    (number_too_great c.args.base c.args.digits.now c.loop-octet.octet-index c.loop-octet.value c.in_ok-worth.worth
    c.requires.least c.loop-octet-test.true c.loop-octet.invariant c.in_ok-worth.ensures c.in_err-value.ensures)

pub loop-octet-preserved : goal.loop-octet-preserved
loop-octet-preserved c =
    let next : (c.loop-octet.value * c.args.base + c.in_ok-worth.worth < 2 ^ 63)
    × (c.in_ok-value.value ≡ c.loop-octet.value * c.args.base + c.in_ok-worth.worth) =
    c.in_ok-value.ensures in
    rw next.1
    (number_more c.args.base c.args.digits.now c.loop-octet.octet-index c.loop-octet.value c.in_ok-worth.worth
    c.loop-octet-test.true c.loop-octet.invariant c.in_ok-worth.ensures next.0)
