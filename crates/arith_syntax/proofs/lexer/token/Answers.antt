use Rattle.std.proofs.Common.{◌≡◌, ℕ, List, take, subst, sym, ◌∙◌, refl, IsTrue, false, true, arith}
use Rattle.arith_syntax.specs.Tokens.{FirstCharacterIs, IsDigit, IsWordCharacter, IsConstant}
use Rattle.arith_syntax.specs.Lexed.{IsRun, BeginsWithSign}
use Rattle.arith_syntax.proofs.LexerLemmas.{sign_read, boundary_behind_word, no_constant_read, name_read}
use Rattle.arith_syntax.proofs.lexer.token.Goals as goal

pub returns-then-size-eq0 : goal.returns-then-size-eq0
returns-then-size-eq0 c =
    let run : IsRun IsWordCharacter c.args.text.now c.word_size-size.result =
    rw c.as_bytes.ensures.value at c.word_size-size.ensures in
    let none : IsRun IsWordCharacter c.args.text.now 0 =
    subst (λ (n : ℕ). IsRun IsWordCharacter c.args.text.now n) c.if-size-eq0.true run in
    let reads : BeginsWithSign c.args.text.now c.sign.result =
    rw c.as_bytes-then-size-eq0.ensures.value at c.sign.ensures in
    sign_read c.args.text.now c.sign.result none.longest reads

pub range-word-requires-clause-end_boundary : goal.range-word-requires-clause-end_boundary
range-word-requires-clause-end_boundary c =
    let run : IsRun IsWordCharacter c.args.text.now c.word_size-size.result =
    rw c.as_bytes.ensures.value at c.word_size-size.ensures in
    boundary_behind_word c.args.text.now c.word_size-size.result c.utf8.text run

pub returns-in-None : goal.returns-in-None
returns-in-None c =
    let run : IsRun IsWordCharacter c.args.text.now c.word_size-size.result =
    rw c.as_bytes.ensures.value at c.word_size-size.ensures in
    let word : c.range-word.result.now ≡ take c.word_size-size.result c.args.text.now = grind arith in
    let begins : FirstCharacterIs IsDigit c.as_bytes-2.result.now = c.if-begins_with_digit.ensures.0 refl in
    let none : (n : ℕ) → IsConstant c.as_bytes-then-begins_with_digit.result.now n → ⊥ = c.in-None.ensures in
    no_constant_read c.args.text.now c.word_size-size.result c.if-size-eq0.false run
    (subst (λ (t : List ℕ). FirstCharacterIs IsDigit t) (c.as_bytes-2.ensures.value ∙ word) begins)
    (subst (λ (t : List ℕ). (n : ℕ) → IsConstant t n → ⊥) (c.as_bytes-then-begins_with_digit.ensures.value ∙ word) none)

pub returns : goal.returns
returns c =
    let run : IsRun IsWordCharacter c.args.text.now c.word_size-size.result =
    rw c.as_bytes.ensures.value at c.word_size-size.ensures in
    let word : c.range-word.result.now ≡ take c.word_size-size.result c.args.text.now = grind arith in
    let begins : FirstCharacterIs IsDigit c.as_bytes-2.result.now → IsTrue false = c.if-begins_with_digit.ensures.1 in
    let name : c.in_ok-name.name ≡ c.range-word.result.now = c.in_ok-name.ensures.name in
    name_read c.args.text.now c.word_size-size.result c.in_ok-name.name c.if-size-eq0.false run
    (λ digit. let no : false ≡ true = begins (subst (λ (t : List ℕ). FirstCharacterIs IsDigit t)
    (sym (c.as_bytes-2.ensures.value ∙ word)) digit) in cc)
    (name ∙ word)
