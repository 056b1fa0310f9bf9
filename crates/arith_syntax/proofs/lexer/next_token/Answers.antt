use Rattle.std.proofs.Common.{◌≡◌, ◌<◌, ℕ, List, ◌+◌, drop, subst, None, Some, Ok, arith}
use Rattle.std.proofs.lemmas.List.{take_rest}
use Rattle.arith_syntax.specs.Tokens.{IsWhite}
use Rattle.arith_syntax.specs.Lexed.{IsRun, BeginsWithToken}
use Rattle.arith_syntax.proofs.TokensReadLemmas.{reached_more, reached_boundary, reached_wrong}
use Rattle.arith_syntax.proofs.CharsLemmas.{wrong_chars}
use Rattle.arith_syntax.proofs.lexer.next_token.Goals as goal

pub range_from-requires : goal.range_from-requires
range_from-requires c = λ some. reached_boundary c.args.text.now c.requires.reached.0 c.args.place c.requires.reached.1

pub returns-in_default : goal.returns-in_default
returns-in_default c =
    let rest : c.range_from.result.now ≡ drop c.args.place c.args.text.now = c.range_from.ensures.value in
    let none : BeginsWithToken c.range_from.result.now (Ok None) =
    subst (λ r. BeginsWithToken c.range_from.result.now (Ok r)) c.in_default.is c.in_ok-spelled.ensures in
    λ found reached. wrong_chars c.args.text.now c.args.place c.utf8.text
    (reached_wrong c.args.text.now found c.args.place reached c.requires.inside
    (subst (λ (t : List ℕ). BeginsWithToken t (Ok None)) rest none))

pub returns : goal.returns
returns c =
    let rest : c.range_from.result.now ≡ drop c.args.place c.args.text.now = c.range_from.ensures.value in
    let some : BeginsWithToken c.range_from.result.now (Ok (Some c.in-Some.spelled)) =
    subst (λ r. BeginsWithToken c.range_from.result.now (Ok r)) c.in-Some.is c.in_ok-spelled.ensures in
    let here : BeginsWithToken (drop c.args.place c.args.text.now) (Ok (Some c.in-Some.spelled)) =
    subst (λ (t : List ℕ). BeginsWithToken t (Ok (Some c.in-Some.spelled))) rest some in
    let text_is : c.as_bytes.result.now ≡ c.args.text.now = c.as_bytes.ensures.value in
    let run : IsRun IsWhite (drop (c.args.place + c.in-Some.spelled.size) c.as_bytes.result.now)
    c.white_size-white.result =
    rw take_rest at c.white_size-white.ensures in
    let long : 0 < c.in-Some.spelled.size = here.1 in (
      omega arith,
      λ found reached. reached_more c.args.text.now found c.args.place c.in-Some.spelled
          c.white_size-white.result reached here
          (subst (λ (t : List ℕ). IsRun IsWhite (drop (c.args.place + c.in-Some.spelled.size) t)
          c.white_size-white.result) text_is run),
    )
