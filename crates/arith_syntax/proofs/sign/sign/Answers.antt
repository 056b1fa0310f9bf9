use Rattle.arith_syntax.proofs.SignLemmas.{IsFront, three_is_longest, two_is_longest}
use Rattle.arith_syntax.proofs.sign.sign.Goals as goal

pub returns-in-Some : goal.returns-in-Some
returns-in-Some c =
    let front : IsFront c.args.text.now c.octet_at-first.result c.octet_at-second.result c.octet_at-third.result =
    record { first = c.octet_at-first.ensures; second = c.octet_at-second.ensures; third = c.octet_at-third.ensures } in
    three_is_longest c.args.text.now c.octet_at-first.result c.octet_at-second.result c.octet_at-third.result front
    c.in-Some.token c.in-Some.ensures

pub returns-in-Some-two : goal.returns-in-Some-two
returns-in-Some-two c =
    let front : IsFront c.args.text.now c.octet_at-first.result c.octet_at-second.result c.octet_at-third.result =
    record { first = c.octet_at-first.ensures; second = c.octet_at-second.ensures; third = c.octet_at-third.ensures } in
    two_is_longest c.args.text.now c.octet_at-first.result c.octet_at-second.result c.octet_at-third.result front
    c.in_default.ensures c.in-Some-two.token c.in-Some-two.ensures
