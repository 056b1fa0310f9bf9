-- From what tokens mean to what their text means.
use Rattle.std.proofs.Common.{◌≡◌, ℕ, List, length, Result, Ok, Err, MatchResult, inr, sym, ap, subst}
use Rattle.std.specs.Str.{IsUtf8, chars}
use Rattle.arith_syntax.specs.declared.fault.ReadFault.{ReadFault}
use Rattle.arith_syntax.specs.declared.token.Placed.{Placed}
use Rattle.arith_syntax.specs.Grammar.{Tree}
use Rattle.arith_syntax.specs.Tokens.{IsTokens}
use Rattle.arith_syntax.specs.Reading.{sentence_of, Means}
use Rattle.arith_syntax.specs.Reading.{OrMemory, StatementMeans}
use Rattle.arith_syntax.proofs.OctetLemmas.{octets}
use Rattle.arith_syntax.proofs.ReadingLemmas.{OrMemory-map}

-- a result of a call, from another fact of it
pub result_map : {T : Type 0} (r : Result T ReadFault) (P Q : T → Type 0) (F G : ReadFault → Type 0)
    → ((t : T) → P t → Q t) → ((fault : ReadFault) → F fault → G fault) → MatchResult r P (OrMemory F)
    → MatchResult r Q (OrMemory G)
result_map (Ok t) P Q F G f g h = f t h
result_map (Err fault) P Q F G f g h = OrMemory-map F G g fault h

-- one statement: `read` are the tokens as they were handed on
pub statement_means : {T : Type 0} (tree : T → Tree) (text : List ℕ) (read tokens : List Placed) → IsUtf8 text → read
    ≡ tokens → IsTokens (chars text) tokens → (r : Result T ReadFault)
    → MatchResult r (λ t. Means (sentence_of read (length text)) (Ok (tree t)))
    (OrMemory (λ fault. Means (sentence_of read (length text)) (Err fault)))
    → MatchResult r (λ t. StatementMeans (chars text) (Ok (tree t)))
    (OrMemory (λ fault. StatementMeans (chars text) (Err fault)))
statement_means tree text read tokens utf8 same is r =
    let is_read : IsTokens (chars text) read = subst (IsTokens (chars text)) (sym same) is in
    let long : length text ≡ length (chars text) = ap length (sym (octets text read utf8 is_read)) in
    result_map r
    (λ t. Means (sentence_of read (length text)) (Ok (tree t))) (λ t. StatementMeans (chars text) (Ok (tree t)))
    (λ fault. Means (sentence_of read (length text)) (Err fault)) (λ fault. StatementMeans (chars text) (Err fault))
    (λ t h. (read, is_read, subst (λ n. Means (sentence_of read n) (Ok (tree t))) long h))
    (λ fault h. inr (read, is_read, subst (λ n. Means (sentence_of read n) (Err fault)) long h))
