-- Tokens one after the other from a place that was reached.
use Rattle.std.proofs.Common.{◌≡◌, ℕ, ◌<◌, ◌≤◌, true, false, List, [], ◌∷◌, ◌++◌, length, Some, None, Ok, Err, refl}
use Rattle.std.proofs.Common.{sym, ap, subst, arith}
use Rattle.std.proofs.Common.{append_assoc}
use Rattle.std.specs.List.{All}
use Rattle.std.specs.Str.{IsUtf8, chars}
use Rattle.std.proofs.lemmas.List.{append-nil}
use Rattle.std.proofs.lemmas.List.Elements.{All-drop, All-nil, All-push}
use Rattle.arith_syntax.specs.Cut.{IsCut, IsWrongFrom}
use Rattle.arith_syntax.specs.declared.fault.ReadFault.{ReadFault}
use Rattle.arith_syntax.specs.declared.fault.ReadFault.TheVariants.{Syntax, TooDeep, OutOfMemory}
use Rattle.arith_syntax.specs.declared.lexer.Next.{Next}
use Rattle.arith_syntax.specs.declared.token.Placed.{Placed}
use Rattle.arith_syntax.specs.Lexed.{IsReachable, IsReached, Lexes, ReadsNext}
use Rattle.arith_syntax.specs.Parts.{IsNamed}
use Rattle.arith_syntax.specs.Reading.{is_semicolon}
use Rattle.arith_syntax.specs.Tokens.{IsTokens}
use Rattle.arith_syntax.proofs.CharsLemmas.{tokens_chars}
use Rattle.arith_syntax.proofs.NamedLemmas.{drop_past, named_reached}
use Rattle.arith_syntax.proofs.OctetLemmas.{octets}
use Rattle.arith_syntax.proofs.TokensReadLemmas.{reached_end}

-- the fault of a token is that of the text
pub lexes_fault : (text : List ℕ) (place : ℕ) (found : List Placed) (fault : ReadFault) → IsReached text found place
    → ReadsNext text place (Err fault) → Lexes (chars text) (Err fault)
lexes_fault text place found (Syntax wrong) reached reads = reads found reached
lexes_fault text place found TooDeep reached reads = reads
lexes_fault text place found OutOfMemory reached reads = tt

-- `;` as a test of a token with its place
abbrev IsPlain : Placed → Type 0
IsPlain p = is_semicolon p.token ≡ false

-- the tokens of a sentence so far, from one place to another
pub record Cutting (text : List ℕ) (place at : ℕ) (tokens : List Placed) : Type 0 where
  pub ahead : place ≤ at
  pub plain : All (λ (p : Placed). is_semicolon p.token ≡ false) tokens
  pub onward : (found : List Placed) → IsReached text found place → IsReached text (found ++ tokens) at

-- no token yet
pub cutting_none : (text : List ℕ) (place : ℕ) (tokens : List Placed) → tokens ≡ [] → Cutting text place place tokens
cutting_none text place tokens none = rw none (record {
  ahead = omega arith;
  plain = All-nil IsPlain;
  onward = λ found reached. subst (λ (ts : List Placed). IsReached text ts place) (sym (append-nil found)) reached;
})

-- one token more
pub cutting_more : (text : List ℕ) (place at : ℕ) (tokens : List Placed) (next : Next) → Cutting text place at tokens
    → ReadsNext text at (Ok next) → is_semicolon next.placed.token ≡ false
    → Cutting text place next.behind (tokens ++ next.placed ∷ [])
cutting_more text place at tokens next cutting reads plain =
    let ahead : place ≤ at = cutting.ahead in
    let more : at < next.behind = reads.0 in
    record {
      ahead = omega arith;
      plain = All-push IsPlain tokens next.placed cutting.plain plain;
      onward = λ found reached. subst (λ (ts : List Placed). IsReached text ts next.behind)
          (append_assoc found tokens (next.placed ∷ [])) (reads.1 (found ++ tokens) (cutting.onward found reached));
    }

-- where the next token stands
pub cutting_reachable : (text : List ℕ) (place at : ℕ) (tokens : List Placed) → Cutting text place at tokens
    → IsReachable text place → IsReachable text at
cutting_reachable text place at tokens cutting from = (from.0 ++ tokens, cutting.onward from.0 from.1)

-- the names of the tokens
named_cut : (text : List ℕ) (place at : ℕ) (tokens : List Placed) → Cutting text place at tokens
    → IsReachable text place → All (IsNamed text) tokens
named_cut text place at tokens cutting from =
    subst (All (IsNamed text)) (drop_past from.0 tokens)
    (All-drop (IsNamed text) (length from.0) (from.0 ++ tokens)
    (named_reached text (from.0 ++ tokens) at (cutting.onward from.0 from.1)))

-- a wrong token in a sentence
pub cut_fault : (text : List ℕ) (place at : ℕ) (tokens : List Placed) (fault : ReadFault)
    → Cutting text place at tokens → ReadsNext text at (Err fault) → IsWrongFrom text place fault
cut_fault text place at tokens (Syntax wrong) cutting reads = λ found reached. reads (found ++ tokens)
    (cutting.onward found reached)
cut_fault text place at tokens TooDeep cutting reads = reads
cut_fault text place at tokens OutOfMemory cutting reads = tt

-- a sentence that `;` ends
pub cut_ended : (text : List ℕ) (place at : ℕ) (tokens : List Placed) (next : Next) → IsReachable text place
    → Cutting text place at tokens → ReadsNext text at (Ok next) → is_semicolon next.placed.token ≡ true
    → IsCut text place tokens (record { end = next.placed.place; behind = Some next.behind })
cut_ended text place at tokens next from cutting reads ends =
    let ahead : place ≤ at = cutting.ahead in
    let more : at < next.behind = reads.0 in
    record {
      plain = cutting.plain;
      named = named_cut text place at tokens cutting from;
      ends = (
        omega arith,
        next.placed,
        ends,
        refl,
        λ found reached. subst (λ (ts : List Placed). IsReached text ts next.behind)
            (append_assoc found tokens (next.placed ∷ [])) (reads.1 (found ++ tokens) (cutting.onward found reached)),
      );
    }

-- a sentence that ends with the text
pub cut_whole : (text : List ℕ) (place at : ℕ) (tokens : List Placed) → IsUtf8 text → IsReachable text place
    → Cutting text place at tokens → length text ≤ at
    → IsCut text place tokens (record { end = length text; behind = None })
cut_whole text place at tokens utf8 from cutting all =
    let is : (found : List Placed) → IsReached text found place → IsTokens (chars text) (found ++ tokens) =
    λ found reached. tokens_chars text (found ++ tokens) utf8
    (reached_end text (found ++ tokens) at (cutting.onward found reached) all) in
    record {
      plain = cutting.plain;
      named = named_cut text place at tokens cutting from;
      ends = (ap length (sym (octets text (from.0 ++ tokens) utf8 (is from.0 from.1))), is);
    }

-- tokens from one place to another
abbrev pub Skipped : List ℕ → ℕ → ℕ → Type 0
Skipped text place at = (found : List Placed) → IsReached text found place
    → (more : List Placed) × IsReached text (found ++ more) at

-- none yet
pub skipped_none : (text : List ℕ) (place : ℕ) → Skipped text place place
skipped_none text place = λ found reached. (
  [],
  subst (λ (ts : List Placed). IsReached text ts place)
      (sym (append-nil found)) reached,
)

-- one more
pub skipped_more : (text : List ℕ) (place at : ℕ) (next : Next) → Skipped text place at → ReadsNext text at (Ok next)
    → Skipped text place next.behind
skipped_more text place at next skipped reads = λ found reached.
    let so_far = skipped found reached in (
      so_far.0 ++ next.placed ∷ [],
      subst (λ (ts : List Placed). IsReached text ts next.behind)
          (append_assoc found so_far.0 (next.placed ∷ [])) (reads.1 (found ++ so_far.0) so_far.1),
    )

-- where the next one stands
pub skipped_reachable : (text : List ℕ) (place at : ℕ) → Skipped text place at → IsReachable text place
    → IsReachable text at
skipped_reachable text place at skipped from =
    let so_far = skipped from.0 from.1 in (from.0 ++ so_far.0, so_far.1)

-- a wrong one
pub skip_fault : (text : List ℕ) (place at : ℕ) (fault : ReadFault) → Skipped text place at
    → ReadsNext text at (Err fault) → IsWrongFrom text place fault
skip_fault text place at (Syntax wrong) skipped reads = λ found reached.
    let so_far = skipped found reached in reads (found ++ so_far.0) so_far.1
skip_fault text place at TooDeep skipped reads = reads
skip_fault text place at OutOfMemory skipped reads = tt

-- all of them
pub skipped_all : (text : List ℕ) (place at : ℕ) → IsUtf8 text → Skipped text place at → length text ≤ at
    → (found : List Placed) → IsReached text found place
    → (more : List Placed) × IsTokens (chars text) (found ++ more)
skipped_all text place at utf8 skipped all found reached =
    let so_far = skipped found reached in
    (so_far.0, tokens_chars text (found ++ so_far.0) utf8 (reached_end text (found ++ so_far.0) at so_far.1 all))
