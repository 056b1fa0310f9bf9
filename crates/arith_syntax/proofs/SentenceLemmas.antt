-- Sentences read one after the other, and their trees.
use Rattle.std.proofs.Common.{◌≡◌, ℕ, ◌≤◌, true, false, List, [], ◌∷◌, ◌++◌, length, filter, Option, Some, None, Ok}
use Rattle.std.proofs.Common.{Err, refl, sym, ap, ◌∙◌, inl, inr}
use Rattle.std.proofs.Common.{append_assoc}
use Rattle.std.specs.List.{All}
use Rattle.std.specs.Str.{IsUtf8, chars}
use Rattle.std.proofs.lemmas.List.{append-nil}
use Rattle.std.proofs.lemmas.List.Elements.{All-head, All-tail, filter-append}
use Rattle.arith_syntax.specs.Cut.{CutsAt, IsCut, IsSomeReachable, IsTold, IsWrongFrom, Progress, ReadsOn}
use Rattle.arith_syntax.specs.declared.cutting.Cut.{Cut}
use Rattle.arith_syntax.specs.declared.fault.ReadFault.{ReadFault}
use Rattle.arith_syntax.specs.declared.fault.ReadFault.TheVariants.{Syntax, TooDeep, OutOfMemory}
use Rattle.arith_syntax.specs.declared.token.Placed.{Placed}
use Rattle.arith_syntax.specs.Grammar.{Tree}
use Rattle.arith_syntax.specs.Lexed.{IsRun}
use Rattle.arith_syntax.specs.Reading.{Sentence, sentence_of, is_semicolon, has_tokens, sentences, AllMean, Adds}
use Rattle.arith_syntax.specs.Reading.{CellMeans}
use Rattle.arith_syntax.specs.Reading.{Fails, OrMemory}
use Rattle.arith_syntax.specs.Tokens.{IsTokens, IsWhite}
use Rattle.arith_syntax.proofs.CharsLemmas.{tokens_chars}
use Rattle.arith_syntax.proofs.ReadingLemmas.{OrMemory-map}
use Rattle.arith_syntax.proofs.TokensReadLemmas.{reached_end, reached_first}

-- `;` as a test of a token with its place
abbrev IsPlain : Placed → Type 0
IsPlain p = is_semicolon p.token ≡ false

-- tokens are cut at the first that is `;`
sentences_cut : (tokens : List Placed) (semicolon : Placed) (more : List Placed) (end : ℕ)
    → All (λ (p : Placed). is_semicolon p.token ≡ false) tokens → is_semicolon semicolon.token ≡ true
    → sentences end (tokens ++ (semicolon ∷ more)) ≡ sentence_of tokens semicolon.place ∷ sentences end more
sentences_cut [] semicolon more end plain is = rw is refl
sentences_cut (t ∷ tokens) semicolon more end plain is =
    let first : is_semicolon t.token ≡ false = All-head IsPlain t tokens plain in
    rw (first, sentences_cut tokens semicolon more end (All-tail IsPlain t tokens plain) is) refl

-- tokens without `;` are one sentence
sentences_whole : (tokens : List Placed) (end : ℕ) → All (λ (p : Placed). is_semicolon p.token ≡ false) tokens
    → sentences end tokens ≡ sentence_of tokens end ∷ []
sentences_whole [] end plain = refl
sentences_whole (t ∷ tokens) end plain =
    let first : is_semicolon t.token ≡ false = All-head IsPlain t tokens plain in
    rw (first, sentences_whole tokens end (All-tail IsPlain t tokens plain)) refl

-- the trees of two lists of sentences
AllMean-append : (xs ys : List Sentence) (ts us : List Tree) → AllMean xs ts → AllMean ys us
    → AllMean (xs ++ ys) (ts ++ us)
AllMean-append [] ys [] us a b = b
AllMean-append [] ys (t ∷ ts) us a b = absurd a
AllMean-append (x ∷ xs) ys [] us a b = absurd a
AllMean-append (x ∷ xs) ys (t ∷ ts) us a b = (a.0, AllMean-append xs ys ts us a.1 b)

-- the trees of the sentences that were read, and one more
good_more : (done : List Sentence) (sentence : Sentence) (trees new : List Tree)
    → AllMean (filter has_tokens done) trees
    → Adds sentence trees new → AllMean (filter has_tokens (done ++ sentence ∷ [])) new
good_more done sentence trees new good adds =
    rw (adds.all, filter-append has_tokens done (sentence ∷ []))
    (AllMean-append _ _ trees adds.added good adds.means)

-- nothing was read
pub progress_none : (text : List ℕ) (size : ℕ) → IsUtf8 text → IsRun IsWhite text size → Progress text size []
progress_none text size utf8 run = record {
  found = [];
  reached = reached_first text size utf8 run;
  done = [];
  all = λ end more. refl;
  good = tt;
}

-- the sentences where the last of them has no `;`
last_one : (text : List ℕ) (place : ℕ) (trees : List Tree) (p : Progress text place trees) (tokens : List Placed)
    (end : ℕ) → All (λ (p : Placed). is_semicolon p.token ≡ false) tokens → sentences end (p.found ++ tokens) ≡ p.done
    ++ sentence_of tokens end ∷ []
last_one text place trees p tokens end plain =
    p.all end tokens ∙ ap (λ more. p.done ++ more) (sentences_whole tokens end plain)

-- the text was read to its end
pub progress_all : (text : List ℕ) (place : ℕ) (trees : List Tree) → IsUtf8 text → Progress text place trees
    → length text ≤ place → CellMeans (chars text) (Ok trees)
progress_all text place trees utf8 p all =
    let is : IsTokens (chars text) p.found =
    tokens_chars text p.found utf8 (reached_end text p.found place p.reached all) in
    let cut : sentences (length (chars text)) p.found ≡ p.done ++ sentence_of [] (length (chars text)) ∷ [] =
    ap (sentences (length (chars text))) (sym (append-nil p.found)) ∙ p.all (length (chars text)) [] in (
      p.found,
      is,
      rw (cut, filter-append has_tokens p.done (sentence_of [] (length (chars text)) ∷ []), append-nil)
          p.good,
    )

-- one sentence more was read
sentence_read : (text : List ℕ) (place end : ℕ) (behind : Option ℕ) (tokens : List Placed) (trees new : List Tree)
    → Progress text place trees → All (λ (p : Placed). is_semicolon p.token ≡ false) tokens
    → CutsAt text place tokens end behind → Adds (sentence_of tokens end) trees new
    → ReadsOn text place (Ok behind) new
sentence_read text place end (Some next) tokens trees new p plain cut adds =
    let semicolon : Placed = cut.1 in (
      cut.0,
      record {
        found = p.found ++ (tokens ++ semicolon ∷ []);
        reached = cut.4 p.found p.reached;
        done = p.done ++ sentence_of tokens end ∷ [];
        all = λ last more.
            ap (sentences last) (append_assoc p.found (tokens ++ semicolon ∷ []) more
            ∙ ap (λ ts. p.found ++ ts) (append_assoc tokens (semicolon ∷ []) more))
            ∙ p.all last (tokens ++ (semicolon ∷ more))
            ∙ ap (λ more. p.done ++ more) (sentences_cut tokens semicolon more last plain cut.2
            ∙ ap (λ at. sentence_of tokens at ∷ sentences last more) cut.3)
            ∙ sym (append_assoc p.done (sentence_of tokens end ∷ []) (sentences last more));
        good = good_more p.done (sentence_of tokens end) trees new p.good adds;
      },
    )
sentence_read text place end None tokens trees new p plain cut adds = (
  p.found ++ tokens,
  cut.1 p.found p.reached,
  rw (sym cut.0, last_one text place trees p tokens end plain) (good_more p.done (sentence_of tokens end) trees new
      p.good adds),
)

-- the same of a cut
pub cut_read : (text : List ℕ) (place : ℕ) (cut : Cut) (tokens : List Placed) (trees new : List Tree)
    → Progress text place trees → IsCut text place tokens cut → Adds (sentence_of tokens cut.end) trees new
    → ReadsOn text place (Ok cut.behind) new
cut_read text place cut tokens trees new p is adds =
    sentence_read text place cut.end cut.behind tokens trees new p is.plain is.ends adds

-- a wrong token in a sentence
pub wrong_read : (text : List ℕ) (place : ℕ) (trees new : List Tree) (fault : ReadFault) → Progress text place trees
    → IsWrongFrom text place fault → ReadsOn text place (Err fault) new
wrong_read text place trees new (Syntax wrong) p is = inl (is p.found p.reached)
wrong_read text place trees new TooDeep p is = absurd is
wrong_read text place trees new OutOfMemory p is = tt

-- a place behind a sentence was reached
some_reachable : (text : List ℕ) (place end : ℕ) (behind : Option ℕ) (tokens : List Placed) (trees : List Tree)
    → Progress text place trees → CutsAt text place tokens end behind → IsSomeReachable text behind
some_reachable text place end (Some next) tokens trees p cut = (
  p.found ++ (tokens ++ cut.1 ∷ []),
  cut.4 p.found
      p.reached,
)
some_reachable text place end None tokens trees p cut = tt

-- the same of a cut
pub cut_reachable : (text : List ℕ) (place : ℕ) (cut : Cut) (tokens : List Placed) (trees : List Tree)
    → Progress text place trees → IsCut text place tokens cut → IsSomeReachable text cut.behind
cut_reachable text place cut tokens trees p is = some_reachable text place cut.end cut.behind tokens trees p is.ends

-- a sentence that fails behind others that don't, and before others
fails_first : (text : List ℕ) (place : ℕ) (trees : List Tree) (p : Progress text place trees) (all : List Placed)
    (sentence : Sentence) (more : List Sentence) (fault : ReadFault) → IsTokens (chars text) all
    → sentences (length (chars text)) all ≡ p.done ++ (sentence ∷ more) → Fails sentence fault
    → CellMeans (chars text) (Err fault)
fails_first text place trees p all sentence more fault is cut f =
    inr (
      all,
      is,
      record {
        before = filter has_tokens p.done;
        trees = trees;
        sentence = sentence;
        after = filter has_tokens more;
        all = rw (cut, filter-append has_tokens p.done (sentence ∷ more), f.some) refl;
        good = p.good;
        fails = f.means;
      },
    )

-- the sentence that fails is the last
fails_last : (text : List ℕ) (place end : ℕ) (tokens : List Placed) (trees : List Tree) (fault : ReadFault)
    → Progress text place trees → All (λ (p : Placed). is_semicolon p.token ≡ false) tokens
    → CutsAt text place tokens end None → Fails (sentence_of tokens end) fault → CellMeans (chars text) (Err fault)
fails_last text place end tokens trees fault p plain cut f =
    fails_first text place trees p (p.found ++ tokens) (sentence_of tokens end) [] fault (cut.1 p.found p.reached)
    (ap (λ e. sentences e (p.found ++ tokens)) (sym cut.0) ∙ last_one text place trees p tokens end plain) f

-- the sentence that fails has others behind it
fails_before : (text : List ℕ) (place next end : ℕ) (tokens more : List Placed) (trees : List Tree) (fault : ReadFault)
    → (p : Progress text place trees) → All (λ (p : Placed). is_semicolon p.token ≡ false) tokens
    → (cut : CutsAt text place tokens end (Some next))
    → IsTokens (chars text) ((p.found ++ (tokens ++ cut.1 ∷ [])) ++ more) → Fails (sentence_of tokens end) fault
    → CellMeans (chars text) (Err fault)
fails_before text place next end tokens more trees fault p plain cut is f =
    let semicolon : Placed = cut.1 in
    let last : ℕ = length (chars text) in
    fails_first text place trees p ((p.found ++ (tokens ++ semicolon ∷ [])) ++ more) (sentence_of tokens end)
    (sentences last more) fault is
    (ap (sentences last) (append_assoc p.found (tokens ++ semicolon ∷ []) more
    ∙ ap (λ ts. p.found ++ ts) (append_assoc tokens (semicolon ∷ []) more))
    ∙ p.all last (tokens ++ (semicolon ∷ more))
    ∙ ap (λ more. p.done ++ more) (sentences_cut tokens semicolon more last plain cut.2
    ∙ ap (λ at. sentence_of tokens at ∷ sentences last more) cut.3)) f

-- the fault that is told of a sentence that has one
told_read : (text : List ℕ) (place end : ℕ) (behind : Option ℕ) (tokens : List Placed) (trees new : List Tree)
    (fault told : ReadFault) → Progress text place trees
    → All (λ (p : Placed). is_semicolon p.token ≡ false) tokens → CutsAt text place tokens end behind
    → OrMemory (Fails (sentence_of tokens end)) fault → IsTold text behind fault told
    → ReadsOn text place (Err told) new
told_read text place end None tokens trees new fault told p plain cut fails is =
    rw is (OrMemory-map (Fails (sentence_of tokens end)) (λ f. CellMeans (chars text) (Err f))
    (λ f h. fails_last text place end tokens trees f p plain cut h) fault fails)
told_read text place end (Some next) tokens trees new fault (Syntax wrong) p plain cut fails (inl is) =
    inl (is (p.found ++ (tokens ++ cut.1 ∷ [])) (cut.4 p.found p.reached))
told_read text place end (Some next) tokens trees new fault TooDeep p plain cut fails (inl is) = absurd is
told_read text place end (Some next) tokens trees new fault OutOfMemory p plain cut fails (inl is) = tt
told_read text place end (Some next) tokens trees new fault told p plain cut fails (inr (same, behind)) =
    let more = behind (p.found ++ (tokens ++ cut.1 ∷ [])) (cut.4 p.found p.reached) in
    rw same (OrMemory-map (Fails (sentence_of tokens end)) (λ f. CellMeans (chars text) (Err f))
    (λ f h. fails_before text place next end tokens more.0 trees f p plain cut more.1 h) fault fails)

-- the same of a cut
pub cut_told : (text : List ℕ) (place : ℕ) (cut : Cut) (tokens : List Placed) (trees new : List Tree)
    (fault told : ReadFault) → Progress text place trees → IsCut text place tokens cut
    → OrMemory (Fails (sentence_of tokens cut.end)) fault → IsTold text cut.behind fault told
    → ReadsOn text place (Err told) new
cut_told text place cut tokens trees new fault told p is fails tells =
    told_read text place cut.end cut.behind tokens trees new fault told p is.plain is.ends fails tells
