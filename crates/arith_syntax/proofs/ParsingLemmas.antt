-- What the parser gives is what the grammar says.
use Rattle.std.proofs.Common.{◌≡◌, ℕ, suc, ◌+◌, ◌<◌, ◌≤◌, Bool, true, false, length, get_or, take, drop, drop-cons, Ok}
use Rattle.std.proofs.Common.{List, [], ◌∷◌, ◌++◌, Option, Some, None, refl, sym, subst, ap, ◌∙◌}
use Rattle.std.proofs.lemmas.List.{take_more, take-append-drop, map-append, take_all}
use Rattle.arith_syntax.specs.declared.token.Token.{Token}
use Rattle.arith_syntax.specs.declared.token.Placed.{Placed}
use Rattle.arith_syntax.specs.Grammar.{Tree, IsStatement}
use Rattle.arith_syntax.specs.Reading.{Sentence, FailsAtToken, FailsAtEnd, tokens_of}
use Rattle.arith_syntax.specs.Parsing.{HaveOneTree}
use Rattle.arith_syntax.specs.Machine.{State, advance, start, run, close, ClosesTo, LeadsTo}
use Rattle.arith_syntax.proofs.MachineLemmas.{run_none, run_append}
use Rattle.arith_syntax.proofs.CompleteLemmas.{statement_taken}
use Rattle.arith_syntax.proofs.TakenLemmas.{IsSound, run_sound, sound_begins, ClosesWell, close_well}

-- a state that tokens led to from the start holds what they spell
reached_sound : (tokens : List Token) (s : State) → run (Some start) tokens ≡ Some s → IsSound tokens (Some s)
reached_sound tokens s reached = subst (IsSound tokens) reached (run_sound [] tokens (Some start) (tt, refl))

-- the tree that the end gives is that of the tokens
pub closed_is_statement : (tokens : List Token) (s : State) (t : Tree) → run (Some start) tokens ≡ Some s → close s
    ≡ Some t
    → IsStatement tokens t
closed_is_statement tokens s t reached closed =
    subst (ClosesWell tokens) closed (close_well tokens s (reached_sound tokens s reached))

-- what the end gives where a state is
close_of : Option State → Option Tree
close_of None = None
close_of (Some s) = close s

-- what the end of a statement's tokens gives
whole_closes : (tokens : List Token) (s : State) (t : Tree) → run (Some start) tokens ≡ Some s → IsStatement tokens t
    → close s ≡ Some t
unfolding close_of
whole_closes tokens s t reached said =
    let whole = statement_taken tokens t said in
    let same : Some s ≡ Some whole.state = sym reached ∙ whole.goes in
    let Goal : Option State → Type 0 = λ o. close_of o ≡ Some t in
    subst Goal (sym same) whole.closes

-- a token that doesn't fit is the first that begins no statement
pub refused_fails : (sentence : Sentence) (before : List Placed) (token : Placed) (after : List Placed) (s : State)
    → sentence.tokens ≡ before ++ (token ∷ after) → run (Some start) (tokens_of before) ≡ Some s → advance s token.token
    ≡ None
    → FailsAtToken sentence token.place
refused_fails sentence before token after s all reached refused = record {
  before = before;
  token = token;
  after = after;
  all = all;
  begins = sound_begins (tokens_of before) s (reached_sound (tokens_of before) s reached);
  breaks = λ begun.
      let whole = statement_taken ((tokens_of before ++ (token.token ∷ [])) ++ begun.more) begun.tree begun.statement in
      let none : run (Some start) ((tokens_of before ++ (token.token ∷ [])) ++ begun.more) ≡ None =
      run_append (Some start) (tokens_of before ++ (token.token ∷ [])) begun.more
      ∙ ap (λ o. run o begun.more)
      (run_append (Some start) (tokens_of before) (token.token ∷ []) ∙ ap (λ o. run o (token.token ∷ [])) reached
      ∙ refused)
      ∙ run_none begun.more in
      let clash : None ≡ Some whole.state = sym none ∙ whole.goes in
      absurd (cc);
  there = refl;
}

-- an end that gives nothing is the end of no statement
pub unclosed_fails : (sentence : Sentence) (s : State) → run (Some start) (tokens_of sentence.tokens) ≡ Some s → close s
    ≡ None
    → FailsAtEnd sentence sentence.end
unclosed_fails sentence s reached unclosed = record {
  begins = sound_begins (tokens_of sentence.tokens) s (reached_sound (tokens_of sentence.tokens) s reached);
  breaks = λ t said.
      let clash : None ≡ Some t = sym unclosed ∙ whole_closes (tokens_of sentence.tokens) s t reached said in
      absurd (cc);
  there = refl;
}

-- the grammar gives tokens one tree
pub one_tree : HaveOneTree
one_tree tokens one other said also =
    let whole = statement_taken tokens one said in
    let same : Some one ≡ Some other = sym whole.closes ∙ whole_closes tokens whole.state other whole.goes also in
    cc

-- a token more is taken
pub one_more_taken : (tokens : List Placed) (i : ℕ) (token : Placed) (s next : State) → i < length tokens → token
    ≡ get_or tokens i token
    → run (Some start) (tokens_of (take i tokens)) ≡ Some s → advance s token.token ≡ Some next
    → run (Some start) (tokens_of (take (i + 1) tokens)) ≡ Some next
one_more_taken tokens i token s next within there reached taken =
    ap (λ (xs : List Placed). run (Some start) (tokens_of xs))
    (take_more tokens i token within ∙ ap (λ (t : Placed). take i tokens ++ (t ∷ [])) (sym there))
    ∙ ap (run (Some start)) (map-append (λ (p : Placed). p.token) (take i tokens) (token ∷ []))
    ∙ run_append (Some start) (tokens_of (take i tokens)) (token.token ∷ [])
    ∙ ap (λ o. run o (token.token ∷ [])) reached
    ∙ taken

-- where a token was taken, the state is the next
pub taken_leads : (took : Bool) (next : Option State) (new : State) → LeadsTo next (Ok took) new → took ≡ true → next
    ≡ Some new
taken_leads true next new leads took = leads
taken_leads false next new leads took = absurd (cc)

-- where it was refused, there is none
pub refused_leads : (took : Bool) (next : Option State) (new : State) → LeadsTo next (Ok took) new → took ≡ false → next
    ≡ None
refused_leads true next new leads took = absurd (cc)
refused_leads false next new leads took = leads

-- where the end came, the tree is that of the end
pub closes_leads : (whole : Bool) (end : Option Tree) (u : Tree) → ClosesTo end (Ok whole) u → whole ≡ true
    → end ≡ Some u
closes_leads true end u closes is = closes
closes_leads false end u closes is = absurd (cc)

-- where it didn't, there is none
pub unclosed_leads : (whole : Bool) (end : Option Tree) (u : Tree) → ClosesTo end (Ok whole) u → whole ≡ false
    → end ≡ None
unclosed_leads true end u closes is = absurd (cc)
unclosed_leads false end u closes is = closes

-- the token at which the parser stops is the first fault
pub refused_at : (tokens : List Placed) (end i : ℕ) (token : Placed) (s : State) → i < length tokens → token
    ≡ get_or tokens i token
    → run (Some start) (tokens_of (take i tokens)) ≡ Some s → advance s token.token ≡ None
    → FailsAtToken (record { tokens = tokens; end = end }) token.place
refused_at tokens end i token s within there reached refused =
    let all : tokens ≡ take i tokens ++ (token ∷ drop (suc i) tokens) =
    sym (take-append-drop i tokens)
    ∙ ap (λ (xs : List Placed). take i tokens ++ xs)
    (drop-cons tokens i token within ∙ ap (λ (t : Placed). t ∷ drop (suc i) tokens) (sym there)) in
    refused_fails (record { tokens = tokens; end = end }) (take i tokens) token (drop (suc i) tokens) s all reached
    refused

-- all tokens are taken
pub all_taken : (tokens : List Placed) (i : ℕ) (s : State) → length tokens ≤ i
    → run (Some start) (tokens_of (take i tokens)) ≡ Some s
    → run (Some start) (tokens_of tokens) ≡ Some s
all_taken tokens i s past reached = ap (λ (xs : List Placed). run (Some start) (tokens_of xs))
    (sym (take_all i tokens past)) ∙ reached
