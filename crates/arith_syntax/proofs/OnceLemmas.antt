-- Two readings of a text are one, where tokens and trees are.
use Rattle.std.proofs.Common.{◌≡◌, ℕ, List, [], ◌∷◌, ◌++◌, ◌⊎◌, Result, Ok, Err, inl, inr, refl, sym, ◌∙◌, ap, subst}
use Rattle.std.proofs.Common.{append_assoc, append-nil}
use Rattle.std.proofs.lemmas.List.{map-append}
use Rattle.arith_syntax.specs.declared.fault.ReadFault.{ReadFault}
use Rattle.arith_syntax.specs.declared.fault.ReadFault.TheVariants.{Syntax, TooDeep, OutOfMemory}
use Rattle.arith_syntax.specs.declared.token.Token.{Token}
use Rattle.arith_syntax.specs.declared.token.Placed.{Placed}
use Rattle.arith_syntax.specs.Grammar.{Tree, IsStatement, BeginsStatement}
use Rattle.arith_syntax.specs.Once.{HasOneReading}
use Rattle.arith_syntax.specs.TokenLaws.{TextsHaveOneLexing, TextsHaveOneWrongPlace, TokensAreNowhereWrong}
use Rattle.arith_syntax.specs.Parsing.{HaveOneTree}
use Rattle.arith_syntax.specs.Reading.{AllMean, CellMeans, FailsAtEnd, FailsAtToken, FailsFirst, IsWrong, Means}
use Rattle.arith_syntax.specs.Reading.{Sentence, StatementMeans, cell_sentences, tokens_of, whole_sentence}
use Rattle.arith_syntax.specs.Tokens.{IsTokens}
use Rattle.arith_syntax.proofs.ParsingLemmas as trees
use Rattle.arith_syntax.proofs.TokenLawLemmas as lexing

-- where two splits of a list at an element stand to each other
abbrev pub Splits : {X : Type 0} → List X → X → List X → X → Type 0
Splits {X} xs x ys y = (x ≡ y) ⊎ ((between : List X) × (ys ≡ xs ++ (x ∷ between)))
    ⊎ ((between : List X) × (xs ≡ ys ++ (y ∷ between)))

-- two splits one element further on
further : {X : Type 0} (z w x y : X) (xs ys : List X) → z ≡ w → Splits xs x ys y → Splits (z ∷ xs) x (w ∷ ys) y
further z w x y xs ys same (inl e) = inl e
further z w x y xs ys same (inr (inl (between, e))) = inr (inl (between, cc))
further z w x y xs ys same (inr (inr (between, e))) = inr (inr (between, cc))

pub splits : {X : Type 0} (xs ys : List X) (x y : X) (after rest : List X) → xs ++ (x ∷ after) ≡ ys ++ (y ∷ rest)
    → Splits xs x ys y
splits [] [] x y after rest e = inl cc
splits [] (w ∷ ys) x y after rest e = let same : x ≡ w = cc in inr (inl (ys, cc))
splits (z ∷ xs) [] x y after rest e = let same : z ≡ y = cc in inr (inr (xs, cc))
splits (z ∷ xs) (w ∷ ys) x y after rest e =
    let same : z ≡ w = cc in
    let tail : xs ++ (x ∷ after) ≡ ys ++ (y ∷ rest) = cc in
    further z w x y xs ys same (splits xs ys x y after rest tail)

-- what begins with more begins with less
pub begins_shorter : (xs ys : List Token) → BeginsStatement (xs ++ ys) → BeginsStatement xs
begins_shorter xs ys b = record {
  more = ys ++ b.more;
  tree = b.tree;
  statement = subst (λ tokens. IsStatement tokens b.tree) (append_assoc xs ys b.more) b.statement;
}

-- the tokens up to one and those behind it
up_to : (before after : List Placed) (token : Placed) → tokens_of (before ++ (token ∷ after))
    ≡ (tokens_of before ++ token.token ∷ []) ++ tokens_of after
up_to before after token =
    map-append (λ (p : Placed). p.token) before (token ∷ after)
    ∙ sym (append_assoc (tokens_of before) (token.token ∷ []) (tokens_of after))

-- where a token doesn't fit, no statement begins with all tokens
not_all : (sentence : Sentence) (place : ℕ) → FailsAtToken sentence place → BeginsStatement (tokens_of sentence.tokens)
    → ⊥
not_all sentence place f b =
    f.breaks (begins_shorter _ (tokens_of f.after) (subst BeginsStatement
    (ap tokens_of f.all ∙ up_to f.before f.after f.token) b))

-- a statement begins with its tokens
begins_itself : (tokens : List Token) (tree : Tree) → IsStatement tokens tree → BeginsStatement tokens
begins_itself tokens tree s = record {
  more = [];
  tree = tree;
  statement = subst (λ ts. IsStatement ts tree) (sym (append-nil tokens)) s;
}

-- a token that doesn't fit isn't before another
not_before : (before more : List Placed) (token : Placed) → (BeginsStatement (tokens_of before ++ token.token ∷ []) → ⊥)
    → (longer : List Placed) → longer ≡ before ++ (token ∷ more) → BeginsStatement (tokens_of longer) → ⊥
not_before before more token breaks longer e b =
    breaks (begins_shorter _ (tokens_of more) (subst BeginsStatement (ap tokens_of e ∙ up_to before more token) b))

one_token : (sentence : Sentence) (p q : ℕ) (a : FailsAtToken sentence p) (b : FailsAtToken sentence q)
    → Splits a.before a.token b.before b.token → p ≡ q
one_token sentence p q a b (inl same) = a.there ∙ ap (λ (t : Placed). t.place) same ∙ sym b.there
one_token sentence p q a b (inr (inl (between, e))) = absurd
    (not_before a.before between a.token a.breaks b.before e b.begins)
one_token sentence p q a b (inr (inr (between, e))) = absurd
    (not_before b.before between b.token b.breaks a.before e a.begins)

-- a sentence has one place where its syntax fails
one_place : (sentence : Sentence) (p q : ℕ) → FailsAtToken sentence p ⊎ FailsAtEnd sentence p → FailsAtToken sentence q
    ⊎ FailsAtEnd sentence q → p ≡ q
one_place sentence p q (inl a) (inl b) =
    one_token sentence p q a b (splits a.before b.before a.token b.token a.after b.after (sym a.all ∙ b.all))
one_place sentence p q (inl a) (inr b) = absurd (not_all sentence p a b.begins)
one_place sentence p q (inr a) (inl b) = absurd (not_all sentence q b a.begins)
one_place sentence p q (inr a) (inr b) = a.there ∙ sym b.there

-- a statement has no place where its syntax fails
no_place : (sentence : Sentence) (tree : Tree) (p : ℕ) → IsStatement (tokens_of sentence.tokens) tree
    → FailsAtToken sentence p ⊎ FailsAtEnd sentence p → ⊥
no_place sentence tree p s (inl a) = not_all sentence p a (begins_itself _ tree s)
no_place sentence tree p s (inr a) = a.breaks tree s

module _ (one_tree : HaveOneTree) where
  -- a sentence means one thing
  pub means_once : (sentence : Sentence) (a b : Result Tree ReadFault) → Means sentence a → Means sentence b → a ≡ b
  means_once sentence (Ok t) (Ok u) m n = ap Ok (one_tree _ t u m.1 n.1)
  means_once sentence (Ok t) (Err (Syntax p)) m n = absurd (no_place sentence t p m.1 n.1)
  means_once sentence (Ok t) (Err TooDeep) m n = absurd (m.0 n)
  means_once sentence (Ok t) (Err OutOfMemory) m n = absurd n
  means_once sentence (Err (Syntax p)) (Ok u) m n = absurd (no_place sentence u p n.1 m.1)
  means_once sentence (Err TooDeep) (Ok u) m n = absurd (n.0 m)
  means_once sentence (Err OutOfMemory) (Ok u) m n = absurd m
  means_once sentence (Err (Syntax p)) (Err (Syntax q)) m n =
      ap (λ place. Err (Syntax place)) (one_place sentence p q m.1 n.1)
  means_once sentence (Err (Syntax p)) (Err TooDeep) m n = absurd (m.0 n)
  means_once sentence (Err (Syntax p)) (Err OutOfMemory) m n = absurd n
  means_once sentence (Err TooDeep) (Err (Syntax q)) m n = absurd (n.0 m)
  means_once sentence (Err TooDeep) (Err TooDeep) m n = refl
  means_once sentence (Err TooDeep) (Err OutOfMemory) m n = absurd n
  means_once sentence (Err OutOfMemory) (Err g) m n = absurd m

  -- sentences have one list of trees
  pub all_once : (sentences : List Sentence) (ts us : List Tree) → AllMean sentences ts → AllMean sentences us → ts ≡ us
  all_once [] [] [] m n = refl
  all_once [] [] (u ∷ us) m n = absurd n
  all_once [] (t ∷ ts) us m n = absurd m
  all_once (s ∷ ss) [] us m n = absurd m
  all_once (s ∷ ss) (t ∷ ts) [] m n = absurd n
  all_once (s ∷ ss) (t ∷ ts) (u ∷ us) m n =
      let first = means_once s (Ok t) (Ok u) m.0 n.0 in
      let rest : ts ≡ us = all_once ss ts us m.1 n.1 in
      cc

  -- a sentence among those that have trees has one
  has_tree : (before : List Sentence) (sentence : Sentence) (after : List Sentence) (trees : List Tree)
      → AllMean (before ++ (sentence ∷ after)) trees → (tree : Tree) × Means sentence (Ok tree)
  has_tree [] sentence after [] m = absurd m
  has_tree [] sentence after (t ∷ ts) m = (t, m.0)
  has_tree (s ∷ ss) sentence after [] m = absurd m
  has_tree (s ∷ ss) sentence after (t ∷ ts) m = has_tree ss sentence after ts m.1

  -- no sentence among them fails
  none_fails : (before : List Sentence) (sentence : Sentence) (after all : List Sentence) (trees : List Tree)
      (fault : ReadFault) → all ≡ before ++ (sentence ∷ after) → AllMean all trees → Means sentence (Err fault) → ⊥
  none_fails before sentence after all trees fault e m f =
      let t = has_tree before sentence after trees (subst (λ ss. AllMean ss trees) e m) in
      let both : Ok t.0 ≡ Err fault = means_once sentence (Ok t.0) (Err fault) t.1 f in
      cc

  one_first : (sentences : List Sentence) (f g : ReadFault) (a : FailsFirst sentences f) (b : FailsFirst sentences g)
      → Splits a.before a.sentence b.before b.sentence → f ≡ g
  one_first sentences f g a b (inl same) =
      let means : Means b.sentence (Err f) = subst (λ s. Means s (Err f)) same a.fails in
      let both = means_once b.sentence (Err f) (Err g) means b.fails in
      cc
  one_first sentences f g a b (inr (inl (between, e))) =
      absurd (none_fails a.before a.sentence between b.before b.trees f e b.good a.fails)
  one_first sentences f g a b (inr (inr (between, e))) =
      absurd (none_fails b.before b.sentence between a.before a.trees g e a.good b.fails)

  -- sentences have one first fault
  pub first_once : (sentences : List Sentence) (f g : ReadFault) → FailsFirst sentences f → FailsFirst sentences g → f
      ≡ g
  first_once sentences f g a b =
      one_first sentences f g a b (splits a.before b.before a.sentence b.sentence a.after b.after (sym a.all ∙ b.all))

module _ (one_tree : HaveOneTree) (one_lexing : TextsHaveOneLexing) (nowhere_wrong : TokensAreNowhereWrong)
    (one_wrong : TextsHaveOneWrongPlace) where
  -- a text that is tokens isn't wrong
  not_wrong : (text : List ℕ) (tokens : List Placed) (fault : ReadFault) → IsTokens text tokens → IsWrong text fault → ⊥
  not_wrong text tokens (Syntax place) is w = nowhere_wrong text tokens place is w
  not_wrong text tokens TooDeep is w = w
  not_wrong text tokens OutOfMemory is w = w

  -- a text is wrong in one way
  wrong_once : (text : List ℕ) (f g : ReadFault) → IsWrong text f → IsWrong text g → f ≡ g
  wrong_once text (Syntax p) (Syntax q) v w = ap Syntax (one_wrong text p q v w)
  wrong_once text (Syntax p) TooDeep v w = absurd w
  wrong_once text (Syntax p) OutOfMemory v w = absurd w
  wrong_once text TooDeep g v w = absurd v
  wrong_once text OutOfMemory g v w = absurd v

  pub cell_once : (text : List ℕ) (a b : Result (List Tree) ReadFault) → CellMeans text a → CellMeans text b → a ≡ b
  cell_once text (Ok ts) (Ok us) (v, is, m) (w, other, n) =
      let same : v ≡ w = one_lexing text v w is other in
      ap Ok (all_once one_tree (cell_sentences text w) ts us
      (subst (λ tokens. AllMean (cell_sentences text tokens) ts) same m) n)
  cell_once text (Ok ts) (Err g) (v, is, m) (inl w) = absurd (not_wrong text v g is w)
  cell_once text (Ok ts) (Err g) (v, is, m) (inr (w, other, n)) =
      let same : v ≡ w = one_lexing text v w is other in
      absurd (none_fails one_tree n.before n.sentence n.after (cell_sentences text w) ts g n.all
      (subst (λ tokens. AllMean (cell_sentences text tokens) ts) same m) n.fails)
  cell_once text (Err f) (Ok us) (inl w) (v, is, m) = absurd (not_wrong text v f is w)
  cell_once text (Err f) (Ok us) (inr (w, other, n)) (v, is, m) =
      let same : v ≡ w = one_lexing text v w is other in
      absurd (none_fails one_tree n.before n.sentence n.after (cell_sentences text w) us f n.all
      (subst (λ tokens. AllMean (cell_sentences text tokens) us) same m) n.fails)
  cell_once text (Err f) (Err g) (inl v) (inl w) = ap Err (wrong_once text f g v w)
  cell_once text (Err f) (Err g) (inl v) (inr (w, other, n)) = absurd (not_wrong text w f other v)
  cell_once text (Err f) (Err g) (inr (w, other, n)) (inl v) = absurd (not_wrong text w g other v)
  cell_once text (Err f) (Err g) (inr (v, is, m)) (inr (w, other, n)) =
      let same : v ≡ w = one_lexing text v w is other in
      ap Err (first_once one_tree (cell_sentences text w) f g
      (subst (λ tokens. FailsFirst (cell_sentences text tokens) f) same m) n)

  pub statement_once : (text : List ℕ) (a b : Result Tree ReadFault) → StatementMeans text a → StatementMeans text b → a
      ≡ b
  statement_once text (Ok t) (Ok u) (v, is, m) (w, other, n) =
      let same : v ≡ w = one_lexing text v w is other in
      means_once one_tree (whole_sentence text w) (Ok t) (Ok u)
      (subst (λ tokens. Means (whole_sentence text tokens) (Ok t)) same m) n
  statement_once text (Ok t) (Err g) (v, is, m) (inl w) = absurd (not_wrong text v g is w)
  statement_once text (Ok t) (Err g) (v, is, m) (inr (w, other, n)) =
      let same : v ≡ w = one_lexing text v w is other in
      means_once one_tree (whole_sentence text w) (Ok t) (Err g)
      (subst (λ tokens. Means (whole_sentence text tokens) (Ok t)) same m) n
  statement_once text (Err f) (Ok u) (inl w) (v, is, m) = absurd (not_wrong text v f is w)
  statement_once text (Err f) (Ok u) (inr (w, other, n)) (v, is, m) =
      let same : w ≡ v = one_lexing text w v other is in
      means_once one_tree (whole_sentence text v) (Err f) (Ok u)
      (subst (λ tokens. Means (whole_sentence text tokens) (Err f)) same n) m
  statement_once text (Err f) (Err g) (inl v) (inl w) = ap Err (wrong_once text f g v w)
  statement_once text (Err f) (Err g) (inl v) (inr (w, other, n)) = absurd (not_wrong text w f other v)
  statement_once text (Err f) (Err g) (inr (w, other, n)) (inl v) = absurd (not_wrong text w g other v)
  statement_once text (Err f) (Err g) (inr (v, is, m)) (inr (w, other, n)) =
      let same : v ≡ w = one_lexing text v w is other in
      means_once one_tree (whole_sentence text w) (Err f) (Err g)
      (subst (λ tokens. Means (whole_sentence text tokens) (Err f)) same m) n

  -- the two together
  reads_once : HasOneReading
  reads_once = record { one_cell = cell_once; one_statement = statement_once }

-- a text means one thing
pub text_reads_once : HasOneReading
text_reads_once = reads_once trees.one_tree lexing.one_lexing lexing.nowhere_wrong lexing.one_wrong_place
