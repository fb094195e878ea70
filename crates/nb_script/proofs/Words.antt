-- The words of a line, one after another: blanks are passed over, and then a word goes up to the
-- next blank.
use Rattle.std.proofs.Common.{◌≡◌, ◌∙◌, ℕ, suc, ◌+◌, ◌<◌, sym, ap, refl, Bool, true, false, not, cond, List, [], ◌∷◌, length, take, drop, filter, nat_lt, arith, lt-ltb, length-drop}
use Rattle.std.specs.List.{slice_split, onto_first, prefix_len, take_while}
use Rattle.std.proofs.lemmas.List.Splits.{slice_split-cons_yes}
use Rattle.std.proofs.lemmas.List.Folds.{length-prefix_len}
use Rattle.nb_script.specs.Script.{Bytes, is_space, words_in}

one_more : (m : ℕ) → 1 + m ≡ suc m
one_more m = omega arith

module _ {X : Type 0} (p : X → Bool) where
  -- how long the part before the first element that passes is
  abbrev pub front : List X → ℕ
  front xs = prefix_len (λ x. not (p x)) xs

  -- the parts after an element that passes
  abbrev pub parts_after : List X → List (List X)
  parts_after [] = []
  parts_after (x ∷ xs) = slice_split p xs

  pub slice_split_front : (xs : List X) → slice_split p xs
      ≡ take (front xs) xs ∷ parts_after (drop (front xs) xs)
  slice_split_front [] = refl
  slice_split_front (x ∷ xs) =
      elim (p x) as (λ b. cond b ([] ∷ slice_split p xs) (onto_first x (slice_split p xs))
      ≡ take (cond (not b) (1 + front xs) 0) (x ∷ xs)
      ∷ parts_after (drop (cond (not b) (1 + front xs) 0) (x ∷ xs))) [
        | true ↦ refl
        | false ↦ rw (one_more (front xs)) (ap (onto_first x) (slice_split_front xs))
      ]

abbrev is_some_word : Bytes → Bool
is_some_word word = nat_lt 0 (length word)

-- the words from the first blank on are those behind it
words_after :
    (xs : Bytes) → words_in (drop (front is_space xs) xs)
    ≡ filter is_some_word (parts_after is_space (drop (front is_space xs) xs))
words_after [] = refl
words_after (x ∷ xs) =
    elim (is_space x) as (λ b. is_space x ≡ b
    → words_in (drop (cond (not b) (1 + front is_space xs) 0) (x ∷ xs))
    ≡ filter is_some_word (parts_after is_space
    (drop (cond (not b) (1 + front is_space xs) 0) (x ∷ xs)))) [
      | true ↦ λ e. rw (slice_split-cons_yes is_space x xs e) refl
      | false ↦ λ e. rw (one_more (front is_space xs)) (words_after xs)
    ] refl

kept :
    (word : Bytes) (words : List Bytes) → 0 < length word
    → filter is_some_word (word ∷ words) ≡ word ∷ filter is_some_word words
kept word words some = rw (lt-ltb 0 (length word) some) refl

-- a text that begins with a word has that word first
pub words_of-word :
    (text : Bytes) → 0 < length (take (front is_space text) text)
    → words_in text ≡ take (front is_space text) text ∷ words_in (drop (front is_space text) text)
words_of-word text some =
    ap (filter is_some_word) (slice_split_front is_space text)
    ∙ kept (take (front is_space text) text)
    (parts_after is_space (drop (front is_space text) text)) some
    ∙ ap (λ ws. take (front is_space text) text ∷ ws) (sym (words_after text))

-- blanks before a word are passed over
pub words_of-blanks :
    (text : Bytes) → words_in (drop (prefix_len is_space text) text) ≡ words_in text
words_of-blanks [] = refl
words_of-blanks (x ∷ xs) =
    elim (is_space x) as (λ b. is_space x ≡ b
    → words_in (drop (cond b (1 + prefix_len is_space xs) 0) (x ∷ xs)) ≡ words_in (x ∷ xs)) [
      | true ↦ λ e. rw (one_more (prefix_len is_space xs)) (words_of-blanks xs
          ∙ sym (rw (slice_split-cons_yes is_space x xs e) refl))
      | false ↦ λ e. refl
    ] refl

-- what comes after blanks begins with a word, if anything comes
pub word_after_blanks :
    (text : Bytes) → 0 < length (drop (prefix_len is_space text) text)
    → 0 < front is_space (drop (prefix_len is_space text) text)
word_after_blanks [] some = some
word_after_blanks (x ∷ xs) some =
    (elim (is_space x) as (λ b. is_space x ≡ b
    → 0 < length (drop (cond b (1 + prefix_len is_space xs) 0) (x ∷ xs))
    → 0 < front is_space (drop (cond b (1 + prefix_len is_space xs) 0) (x ∷ xs))) [
      | true ↦ λ e. rw (one_more (prefix_len is_space xs)) (word_after_blanks xs)
      | false ↦ λ e some. rw e (omega arith)
    ]) refl some

none_left : (rest : Bytes) → length rest ≡ 0 → words_in rest ≡ []
none_left [] e = refl
none_left (b ∷ rest) e = absurd (omega arith)

-- where only blanks stand, there is no word
pub no_word :
    (text rest : Bytes) (blanks : ℕ) → blanks ≡ length (take_while is_space text)
    → rest ≡ drop blanks text → length rest ≡ 0 → words_in text ≡ []
no_word text rest blanks b r e =
    sym (words_of-blanks text) ∙ ap (λ n. words_in (drop n text))
    (sym (b ∙ length-prefix_len is_space text))
    ∙ ap words_in (sym r) ∙ none_left rest e

word_has_bytes :
    (text from : Bytes) → from ≡ drop (prefix_len is_space text) text → 0 < length from
    → 0 < front is_space from
word_has_bytes text from e some = rw e (word_after_blanks text (rw (← e) some))

-- what follows a word is shorter than the text
pub shorter_rest :
    (text from rest : Bytes) (blanks len : ℕ) → blanks ≡ length (take_while is_space text)
    → from ≡ drop blanks text → 0 < length from
    → len ≡ length (take_while (λ b. not (is_space b)) from) → rest ≡ drop len from
    → length rest < length text
shorter_rest text from rest blanks len b f some l r =
    let from_is : from ≡ drop (prefix_len is_space text) text = f
    ∙ ap (λ n. drop n text) (b ∙ length-prefix_len is_space text) in
    let long = word_has_bytes text from from_is some in
    let len_is : len ≡ front is_space from = l ∙ length-prefix_len (λ b. not (is_space b)) from in
    omega (arith, ap length f, ap length r, length-drop blanks text, length-drop len from)

-- a word stands after the blanks, up to the next blank
pub first_word :
    (text from word rest : Bytes) (blanks len : ℕ) → blanks ≡ length (take_while is_space text)
    → from ≡ drop blanks text → 0 < length from
    → len ≡ length (take_while (λ b. not (is_space b)) from) → word ≡ take len from
    → rest ≡ drop len from → words_in text ≡ word ∷ words_in rest
first_word text from word rest blanks len b f some l w r =
    let from_is : from ≡ drop (prefix_len is_space text) text = f
    ∙ ap (λ n. drop n text) (b ∙ length-prefix_len is_space text) in
    let len_is : len ≡ front is_space from = l ∙ length-prefix_len (λ b. not (is_space b)) from in
    let long = word_has_bytes text from from_is some in
    let begins : 0 < length (take (front is_space from) from) =
    rw (length-prefix_len (λ b. not (is_space b)) from) long in
    sym (words_of-blanks text) ∙ ap words_in (sym from_is) ∙ words_of-word from begins
    ∙ ap (λ n. take n from ∷ words_in (drop n from)) (sym len_is)
    ∙ ap (λ v. v ∷ words_in (drop len from)) (sym w) ∙ ap (λ v. word ∷ words_in v) (sym r)
