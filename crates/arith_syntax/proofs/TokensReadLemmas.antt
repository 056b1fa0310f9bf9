-- How far a text has been read, from white space to white space.
use Rattle.std.proofs.Common.{◌≡◌, ℕ, ◌+◌, ◌-◌, ◌<◌, ◌≤◌, inl, inr, List, [], ◌∷◌, ◌++◌, length, take, drop, refl, sym}
use Rattle.std.proofs.Common.{◌∙◌, ap, subst, arith, Some, None, Ok, length-drop}
use Rattle.std.specs.List.{All}
use Rattle.std.specs.Str.{IsUtf8, IsCharBoundary}
use Rattle.std.proofs.lemmas.List.{take-append-drop, append-nil, drop-drop, drop_all, length-take-le}
use Rattle.std.proofs.lemmas.List.Elements.{All-weaker}
use Rattle.std.proofs.lemmas.Str.{IsCharBoundary-from_drop}
use Rattle.arith_syntax.specs.declared.spelled.Spelled.{Spelled}
use Rattle.arith_syntax.specs.declared.token.Token.{Token}
use Rattle.arith_syntax.specs.declared.token.Placed.{Placed}
use Rattle.arith_syntax.specs.Tokens.{FirstCharacterIs, IsWhite, IsToken, ReadsTokens, IsTokens, IsWrongAt}
use Rattle.arith_syntax.specs.Lexed.{IsReached, IsRun, BeginsWithToken}
use Rattle.arith_syntax.proofs.AsciiLemmas.{IsAsciiCharacter, utf8_behind}
use Rattle.arith_syntax.proofs.TokenLemmas.{token_ascii}

-- white space is ASCII
pub white_ascii : (c : ℕ) → IsWhite c → IsAsciiCharacter c
white_ascii c (inl space) = omega arith
white_ascii c (inr control) = omega arith

-- what follows white space is UTF-8
pub utf8_behind_white : (text : List ℕ) (size : ℕ) → IsUtf8 text → All IsWhite (take size text)
    → IsUtf8 (drop size text)
utf8_behind_white text size utf8 blank =
    utf8_behind (take size text) (drop size text) (All-weaker IsWhite IsAsciiCharacter white_ascii (take size text)
    blank)
    (subst (λ (t : List ℕ). IsUtf8 t) (sym (take-append-drop size text)) utf8)

-- white space in front is behind no token
pub reached_first : (text : List ℕ) (size : ℕ) → IsUtf8 text → IsRun IsWhite text size → IsReached text [] size
reached_first text size utf8 run = record {
  fits = run.fits;
  end = 0;
  white = take size text;
  reads = (refl, take-append-drop size text);
  blank = run.inside;
  there = let taken : length (take size text) ≡ size = length-take-le size text run.fits in omega arith;
  visible = run.longest;
  utf8 = utf8_behind_white text size utf8 run.inside;
}

-- one more token behind those that were read
pub reads_push : (place : ℕ) (text : List ℕ) (found : List Placed) (end : ℕ) (white spelled more : List ℕ)
    (token : Token) (at : ℕ)
    → ReadsTokens place text found end (white ++ (spelled ++ more)) → All IsWhite white → IsToken token spelled more
    → at
    ≡ end + length white
    → ReadsTokens place text (found ++ record { token = token; place = at } ∷ []) (end + length white + length spelled)
    more
reads_push place text [] end white spelled more token at reads blank is there =
    (white, spelled, more, sym reads.1, blank, is, omega (arith, reads.0), (omega (arith, reads.0), refl))
reads_push place text (t ∷ found) end white spelled more token at reads blank is there = (
  reads.0,
  reads.1,
  reads.2,
  reads.3,
  reads.4,
  reads.5,
  reads.6,
  reads_push (place + length reads.0 + length reads.1) reads.2 found end white spelled more token at reads.7 blank is
      there,
)

-- one more token and the white space behind it
pub reached_more : (text : List ℕ) (found : List Placed) (place : ℕ) (s : Spelled) (size : ℕ)
    → IsReached text found place
    → BeginsWithToken (drop place text) (Ok (Some s)) → IsRun IsWhite (drop (place + s.size) text) size
    → IsReached text (found ++ record { token = s.token; place = place } ∷ []) (place + s.size + size)
reached_more text found place s size reached begins run =
    let left : length (drop place text) ≡ length text - place = length-drop place text in
    let behind : drop s.size (drop place text) ≡ drop (place + s.size) text = drop-drop s.size place text in
    let after : drop size (drop (place + s.size) text) ≡ drop (place + s.size + size) text =
    drop-drop size (place + s.size) text in
    let spelled : length (take s.size (drop place text)) ≡ s.size = length-take-le s.size (drop place text) begins.0 in
    let rest : length (drop (place + s.size) text) ≡ length text - (place + s.size) =
    length-drop (place + s.size) text in
    let white : length (take size (drop (place + s.size) text)) ≡ size =
    length-take-le size (drop (place + s.size) text) run.fits in
    let inside : s.size ≤ length (drop place text) = begins.0 in
    let fits : size ≤ length (drop (place + s.size) text) = run.fits in
    let so_far : place ≤ length text = reached.fits in
    let at : place ≡ reached.end + length reached.white = reached.there in
    let utf8 : IsUtf8 (drop (place + s.size) text) =
    subst (λ (t : List ℕ). IsUtf8 t) behind
    (utf8_behind (take s.size (drop place text)) (drop s.size (drop place text))
    (token_ascii s.token (take s.size (drop place text)) (drop s.size (drop place text)) begins.2)
    (subst (λ (t : List ℕ). IsUtf8 t) (sym (take-append-drop s.size (drop place text))) reached.utf8)) in
    let reads : ReadsTokens 0 text found reached.end (reached.white
    ++ (take s.size (drop place text) ++ drop s.size (drop place text))) =
    subst (λ (t : List ℕ). ReadsTokens 0 text found reached.end (reached.white ++ t))
    (sym (take-append-drop s.size (drop place text))) reached.reads in
    let pushed : ReadsTokens 0 text (found ++ record { token = s.token; place = place } ∷ [])
    (reached.end + length reached.white + length (take s.size (drop place text))) (drop s.size (drop place text)) =
    reads_push 0 text found reached.end reached.white (take s.size (drop place text)) (drop s.size (drop place text))
    s.token place reads reached.blank begins.2 at in
    let rest_is : drop s.size (drop place text) ≡ take size (drop (place + s.size) text)
    ++ drop (place + s.size + size) text =
    behind ∙ (sym (take-append-drop size (drop (place + s.size) text))
    ∙ ap (λ (t : List ℕ). take size (drop (place + s.size) text) ++ t) after) in
    record {
      fits = omega arith;
      end = reached.end + length reached.white + length (take s.size (drop place text));
      white = take size (drop (place + s.size) text);
      reads = subst (λ (t : List ℕ). ReadsTokens 0 text (found ++ record { token = s.token; place = place } ∷ [])
          (reached.end + length reached.white + length (take s.size (drop place text))) t) rest_is pushed;
      blank = run.inside;
      there = omega arith;
      visible = subst (λ (t : List ℕ). FirstCharacterIs IsWhite t → ⊥) after run.longest;
      utf8 = subst (λ (t : List ℕ). IsUtf8 t) after (utf8_behind_white (drop (place + s.size) text) size utf8
          run.inside);
    }

-- a text may be cut at a place that was reached
pub reached_boundary : (text : List ℕ) (found : List Placed) (place : ℕ) → IsReached text found place
    → IsCharBoundary text place
reached_boundary text found place reached = IsCharBoundary-from_drop text place reached.fits reached.utf8

-- a text that was read to its end is these tokens
pub reached_end : (text : List ℕ) (found : List Placed) (place : ℕ) → IsReached text found place → length text ≤ place
    → IsTokens text found
reached_end text found place reached all =
    let none : drop place text ≡ [] = drop_all place text all in
    record {
      end = reached.end;
      rest = reached.white;
      reads = subst (λ (t : List ℕ). ReadsTokens 0 text found reached.end t)
          (ap (λ (t : List ℕ). reached.white ++ t) none ∙ append-nil reached.white) reached.reads;
      white = reached.blank;
    }

-- a text that begins with no token at a place that was reached is wrong there
pub reached_wrong : (text : List ℕ) (found : List Placed) (place : ℕ) → IsReached text found place → place < length text
    → BeginsWithToken (drop place text) (Ok None) → IsWrongAt text place
reached_wrong text found place reached inside none =
    let left : length (drop place text) ≡ length text - place = length-drop place text in
    record {
      tokens = found;
      end = reached.end;
      white = reached.white;
      wrong = drop place text;
      reads = reached.reads;
      blank = reached.blank;
      there = reached.there;
      some = omega arith;
      visible = reached.visible;
      no_token = none;
    }
