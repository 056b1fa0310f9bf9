-- The run that ends a text, one character further on.
use Rattle.std.proofs.Common.{◌≡◌, ℕ, suc, ◌+◌, ◌-◌, ◌≤◌, ◌<◌, Bool, true, false, cond, List, [], ◌∷◌, ◌++◌, length}
use Rattle.std.proofs.Common.{take, drop, refl, sym, ◌∙◌, ap, arith, append-nil}
use Rattle.std.specs.List.{prefix_len, suffix_len, take_while}
use Rattle.std.proofs.lemmas.Bool.Decides.{nat_tests}
use Rattle.std.proofs.lemmas.List.{reverse-append, drop-append-le, drop_all, take_all, take_at, take-append-le}
use Rattle.std.proofs.lemmas.List.{take-append-drop}
use Rattle.std.proofs.Math.Seq.{drop-cons}
use Rattle.std.proofs.lemmas.List.{take_more}
use Rattle.std.proofs.Common.{get_or, append_assoc, inl, inr, ◌⊎◌}
use Rattle.std.proofs.Common.{length-append}
use Rattle.std.proofs.Math.Utf8.{encode}
use Rattle.std.proofs.lemmas.Str.{encode_ascii}
use Rattle.arith_syntax.specs.Parts.{is_word_character}
use Rattle.arith_shell.specs.Words.{last_run, run_start, word_around, word_before}

-- a character of a word is ASCII
pub small : (c : ℕ) → is_word_character c ≡ true → c < 128
small c h = grind (arith, nat_tests)

-- a character of a word as its octets
pub encoded : (c : ℕ) → is_word_character c ≡ true → encode c ≡ c ∷ []
encoded c h = encode_ascii c (small c h)

-- the run that ends a text with one character more
suffix_push : (text : List ℕ) (c : ℕ) → suffix_len is_word_character (text ++ c ∷ [])
    ≡ cond (is_word_character c) (1 + suffix_len is_word_character text) 0
suffix_push text c = rw (reverse-append text (c ∷ [])) refl

-- a character of a word makes the last run longer
pub start_stays : (text : List ℕ) (c : ℕ) → is_word_character c ≡ true → run_start (text ++ c ∷ []) ≡ run_start text
start_stays text c h =
    let longer : suffix_len is_word_character (text ++ c ∷ []) ≡ 1 + suffix_len is_word_character text =
    suffix_push text c ∙ ap (λ b. cond b (1 + suffix_len is_word_character text) 0) h in
    omega (arith, length-append text (c ∷ []), longer)

pub run_grows : (text : List ℕ) (c : ℕ) → is_word_character c ≡ true → last_run (text ++ c ∷ []) ≡ last_run text ++ c
    ∷ []
run_grows text c h = ap (λ k. drop k (text ++ c ∷ [])) (start_stays text c h)
    ∙ drop-append-le (run_start text) text (c ∷ []) (omega arith)

-- any other character ends it
pub start_moves : (text : List ℕ) (c : ℕ) → is_word_character c ≡ false → run_start (text ++ c ∷ []) ≡ length text + 1
start_moves text c h =
    let none : suffix_len is_word_character (text ++ c ∷ []) ≡ 0 = suffix_push text c
    ∙ ap (λ b. cond b (1 + suffix_len is_word_character text) 0) h in
    omega (arith, length-append text (c ∷ []), none)

pub run_ends : (text : List ℕ) (c : ℕ) → is_word_character c ≡ false → last_run (text ++ c ∷ []) ≡ []
run_ends text c h =
    ap (λ k. drop k (text ++ c ∷ [])) (start_moves text c h)
    ∙ drop_all (length text + 1) (text ++ c ∷ []) (omega (arith, length-append text (c ∷ [])))

-- what a test that counts says
passes : (b : Bool) (n m : ℕ) → cond b (1 + n) 0 ≡ suc m → (b ≡ true) × (n ≡ m)
passes true n m e = (refl, omega arith)
passes false n m e = absurd (omega arith)

-- characters of a word, and one more or another one behind them
pub all_and_one : (text : List ℕ) (c : ℕ) → prefix_len is_word_character text ≡ length text → is_word_character c ≡ true
    → prefix_len is_word_character (text ++ c ∷ []) ≡ length (text ++ c ∷ [])
all_and_one [] c all h = rw h refl
all_and_one (x ∷ xs) c all h =
    let first = passes (is_word_character x) (prefix_len is_word_character xs) (length xs) all in
    rw first.0 (omega (arith, all_and_one xs c first.1 h))

pub all_and_stop : (text : List ℕ) (c : ℕ) (more : List ℕ) → prefix_len is_word_character text ≡ length text
    → is_word_character c ≡ false → prefix_len is_word_character (text ++ (c ∷ more)) ≡ length text
all_and_stop [] c more all h = rw h refl
all_and_stop (x ∷ xs) c more all h =
    let first = passes (is_word_character x) (prefix_len is_word_character xs) (length xs) all in
    rw first.0 (omega (arith, all_and_stop xs c more first.1 h))

-- either of two numbers is the greater one
either : (m n : ℕ) → (m ≤ n) ⊎ (n < m)
either m n = grind arith

-- characters that were read are a text's front
abbrev pub IsFront : List ℕ → List ℕ → Type 0
IsFront text read = read ≡ take (length read) text

-- one character of a text more
pub front_more : (text read : List ℕ) (c : ℕ) → IsFront text read → (length read < length text)
    × (c ≡ get_or text (length read) c) → IsFront text (read ++ c ∷ [])
front_more text read c front turn =
    let longer : length (read ++ c ∷ []) ≡ length read + 1 = length-append read (c ∷ []) in
    rw longer (ap (λ r. r ++ c ∷ []) front ∙ ap (λ d. take (length read) text ++ d ∷ []) turn.1
    ∙ sym (take_more text (length read) c turn.0))

-- a front as long as the text is the text
pub all_front : (text read : List ℕ) → IsFront text read → length read ≡ length text → text ≡ read
all_front text read front long = sym (take_all (length read) text (omega arith)) ∙ sym front

-- what stands behind them
pub behind : (text read : List ℕ) → IsFront text read → text ≡ read ++ drop (length read) text
behind text read front = sym (take-append-drop (length read) text) ∙ ap (λ r. r ++ drop (length read) text) (sym front)

pub behind_next : (text read : List ℕ) (c : ℕ) → IsFront text read → (length read < length text)
    × (c ≡ get_or text (length read) c) → text ≡ read ++ (c ∷ drop (suc (length read)) text)
behind_next text read c front turn =
    behind text read front ∙ ap (λ r. read ++ r) (drop-cons text (length read) c turn.0
    ∙ ap (λ d. d ∷ drop (suc (length read)) text) (sym turn.1))

-- how far a text was read up to the cursor
pub record Before (cursor : ℕ) (read word : List ℕ) (start place : ℕ) : Type 0 where
  pub counted : place ≡ length read
  pub within : place ≤ cursor
  pub begun : start ≡ run_start read
  pub run : word ≡ last_run read

-- how far a text was read at the cursor and beyond it
pub record Around (cursor : ℕ) (read word : List ℕ) (left : ℕ) : Type 0 where
  pub counted : left ≡ cursor - length read
  pub run : word ≡ word_before read cursor ++ drop cursor read
  pub beyond : prefix_len is_word_character (drop cursor read) ≡ length (drop cursor read)

-- one character more before the cursor
pub before_word : (cursor : ℕ) (read word : List ℕ) (start place c : ℕ) → Before cursor read word start place
    → (place ≡ cursor → ⊥) → is_word_character c ≡ true
    → Before cursor (read ++ c ∷ []) (word ++ encode c) start (place + 1)
before_word cursor read word start place c b ne h = record {
  counted = omega (arith, b.counted, length-append read (c ∷ []));
  within = omega (arith, b.within);
  begun = b.begun ∙ sym (start_stays read c h);
  run = rw (encoded c h) (ap (λ w. w ++ c ∷ []) b.run ∙ sym (run_grows read c h));
}

pub before_other : (cursor : ℕ) (read word : List ℕ) (start place c : ℕ) → Before cursor read word start place
    → (place ≡ cursor → ⊥) → is_word_character c ≡ false → Before cursor (read ++ c ∷ []) [] (place + 1) (place + 1)
before_other cursor read word start place c b ne h = record {
  counted = omega (arith, b.counted, length-append read (c ∷ []));
  within = omega (arith, b.within);
  begun = sym (start_moves read c h ∙ ap (λ n. n + 1) (sym b.counted));
  run = sym (run_ends read c h);
}

-- the whole text was read
pub before_end : (cursor : ℕ) (text read word : List ℕ) (start place : ℕ) → Before cursor read word start place → text
    ≡ read → (word ≡ word_before text cursor) × (start ≡ run_start (take cursor text))
    × (place ≡ length (take cursor text))
before_end cursor text read word start place b e =
    let all : take cursor text ≡ read = ap (take cursor) e
    ∙ take_all cursor read (omega (arith, b.counted, b.within)) in
    (b.run ∙ ap last_run (sym all), b.begun ∙ ap run_start (sym all), b.counted ∙ ap length (sym all))

-- the text was read up to the cursor
pub before_cursor : (cursor : ℕ) (text read more word : List ℕ) (start place : ℕ) → Before cursor read word start place
    → place ≡ cursor → text ≡ read ++ more → (word ≡ word_before text cursor) × (start ≡ run_start (take cursor text))
    × (place ≡ length (take cursor text))
before_cursor cursor text read more word start place b here e =
    let all : take cursor text ≡ read = ap (take cursor) e ∙ take_at read more cursor (sym b.counted ∙ here) in
    (b.run ∙ ap last_run (sym all), b.begun ∙ ap run_start (sym all), b.counted ∙ ap length (sym all))

-- characters of a word, one behind the other, and what is taken of them
taken : (text : List ℕ) → prefix_len is_word_character text ≡ length text → take_while is_word_character text ≡ text
taken text all = ap (λ n. take n text) all ∙ take_all (length text) text (omega arith)

-- the whole text was read
pub around_end : (cursor : ℕ) (text read word : List ℕ) (left : ℕ) → Around cursor read word left → text ≡ read → word
    ≡ word_around text cursor
around_end cursor text read word left a e =
    a.run ∙ ap (λ more. word_before read cursor ++ more) (sym (taken (drop cursor read) a.beyond))
    ∙ ap (λ t. word_around t cursor) (sym e)

-- another character stands beyond the cursor
pub around_stop : (cursor : ℕ) (text read more word : List ℕ) (left c : ℕ) → Around cursor read word left → left ≡ 0
    → is_word_character c ≡ false → text ≡ read ++ (c ∷ more) → word ≡ word_around text cursor
around_stop cursor text read more word left c a none h e =
    let far : cursor ≤ length read = omega (arith, a.counted) in
    let front : take cursor (read ++ (c ∷ more)) ≡ take cursor read = take-append-le cursor read (c ∷ more) far in
    let back : drop cursor (read ++ (c ∷ more)) ≡ drop cursor read ++ (c ∷ more) =
    drop-append-le cursor read (c ∷ more) far in
    let run : take_while is_word_character (drop cursor read ++ (c ∷ more)) ≡ drop cursor read =
    ap (λ n. take n (drop cursor read ++ (c ∷ more))) (all_and_stop (drop cursor read) c more a.beyond h)
    ∙ take_at (drop cursor read) (c ∷ more) (length (drop cursor read)) refl in
    a.run ∙ ap (λ w. last_run w ++ drop cursor read) (sym front)
    ∙ ap (λ w. word_before (read ++ (c ∷ more)) cursor ++ w) (sym (ap (take_while is_word_character) back ∙ run))
    ∙ ap (λ t. word_around t cursor) (sym e)

-- one character of a word more, before the cursor or beyond it
around_word_before : (cursor : ℕ) (read word : List ℕ) (left c : ℕ) → Around cursor read word left
    → length read < cursor → is_word_character c ≡ true → Around cursor (read ++ c ∷ []) (word ++ encode c) (left - 1)
around_word_before cursor read word left c a near h =
    let all : take cursor read ≡ read = take_all cursor read (omega arith) in
    let none : drop cursor read ≡ [] = drop_all cursor read (omega arith) in
    let all_now : take cursor (read ++ c ∷ []) ≡ read ++ c ∷ [] =
    take_all cursor (read ++ c ∷ []) (omega (arith, length-append read (c ∷ []))) in
    let none_now : drop cursor (read ++ c ∷ []) ≡ [] = drop_all cursor (read ++ c ∷ [])
    (omega (arith, length-append read (c ∷ []))) in
    record {
      counted = omega (arith, a.counted, length-append read (c ∷ []));
      run = rw (
        encoded c h,
        a.run,
        all,
        none,
        all_now,
        none_now,
        append-nil (last_run read),
        append-nil (last_run (read ++ c ∷ [])),
      ) (sym (run_grows read c h));
      beyond = rw none_now refl;
    }

around_word_beyond : (cursor : ℕ) (read word : List ℕ) (left c : ℕ) → Around cursor read word left
    → cursor ≤ length read → is_word_character c ≡ true → Around cursor (read ++ c ∷ []) (word ++ encode c) (left - 1)
around_word_beyond cursor read word left c a far h =
    let front : take cursor (read ++ c ∷ []) ≡ take cursor read = take-append-le cursor read (c ∷ []) far in
    let back : drop cursor (read ++ c ∷ []) ≡ drop cursor read ++ c ∷ [] = drop-append-le cursor read (c ∷ []) far in
    record {
      counted = omega (arith, a.counted, length-append read (c ∷ []));
      run = rw (encoded c h, a.run, front, back) (append_assoc (word_before read cursor) (drop cursor read) (c ∷ []));
      beyond = rw back (all_and_one (drop cursor read) c a.beyond h);
    }

pub around_word : (cursor : ℕ) (read word : List ℕ) (left c : ℕ) → Around cursor read word left → is_word_character c
    ≡ true → Around cursor (read ++ c ∷ []) (word ++ encode c) (left - 1)
around_word cursor read word left c a h =
    elim (either cursor (length read)) [
      | inl far ↦ around_word_beyond cursor read word left c a far h
      | inr near ↦
          around_word_before cursor read word left c a near h
    ]

-- another character before the cursor
pub around_other : (cursor : ℕ) (read word : List ℕ) (left c : ℕ) → Around cursor read word left → (left ≡ 0 → ⊥)
    → is_word_character c ≡ false → Around cursor (read ++ c ∷ []) [] (left - 1)
around_other cursor read word left c a some h =
    let near : length read < cursor = omega (arith, a.counted) in
    let all_now : take cursor (read ++ c ∷ []) ≡ read ++ c ∷ [] =
    take_all cursor (read ++ c ∷ []) (omega (arith, length-append read (c ∷ []))) in
    let none_now : drop cursor (read ++ c ∷ []) ≡ [] = drop_all cursor (read ++ c ∷ [])
    (omega (arith, length-append read (c ∷ []))) in
    record {
      counted = omega (arith, a.counted, length-append read (c ∷ []));
      run = rw (all_now, none_now, run_ends read c h) refl;
      beyond = rw none_now refl;
    }

-- the two with the text that is read
pub record ReadsBefore (text : List ℕ) (cursor : ℕ) (read word : List ℕ) (start place : ℕ) : Type 0 where
  pub front : IsFront text read
  pub so_far : Before cursor read word start place

pub record ReadsAround (text : List ℕ) (cursor : ℕ) (read word : List ℕ) (left : ℕ) : Type 0 where
  pub front : IsFront text read
  pub so_far : Around cursor read word left
