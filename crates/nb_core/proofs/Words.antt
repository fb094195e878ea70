-- What one event changes in the words of a chain.
use Rattle.std.proofs.Common.{◌≡◌, ◌≢◌, ◌∙◌, ℕ, suc, ◌+◌, ◌%◌, ◌^◌, max, bit_or, Bool, true, false, cond, eqb, ◌&&◌, List, [], ◌∷◌, length, slice_index, slice_set, ap, sym, subst, subst₂, inl, inr, refl, arith}
use Rattle.std.proofs.lemmas.Bool.{and_parts, cond_both, eq-eqb, eqb-true}
use Rattle.std.proofs.lemmas.Bool.Decides.{eqb_tells}
use Rattle.std.proofs.lemmas.List.{get_or-set_other, get_or-set_same, get_or-replicate, length-replicate, length-set}
use Rattle.nb_core.specs.Plans.{Plan, IsPlan, IsWord, Word, Top, Header, Key, Value, index_of_word, word_count}
use Rattle.nb_core.specs.States.{key_word, value_word}
use Rattle.nb_core.specs.Tables.{changed_at, chunk_of, word_step, words_of}
use Rattle.nb_core.specs.History.{IsInRange}
use Rattle.nb_core.proofs.Tables.{indices_are_distinct}
use Rattle.nb_core.specs.declared.events.Event.{Event}
use Rattle.nb_core.specs.declared.events.Event.TheVariants.{Claim, Kill, Won, CopyIn, Prime, Finish, Install, Take, Count, Promote, Read}
use Rattle.nb_core.specs.declared.states.KeyState.TheVariants.{Dead, Claimed}
use Rattle.nb_core.specs.declared.states.ValueState.TheVariants.{Live}

-- an event leaves the number of words
length-word_step : (p : Plan) (e : Event) (w : List ℕ) → length (word_step p e w) ≡ length w
length-word_step p (Read s c r) w = refl
length-word_step p _ w = length-set w _ _

-- every history has as many words as the chain
pub length-words_of : (p : Plan) (h : List Event) → length (words_of p h) ≡ word_count p
length-words_of p [] = length-replicate (word_count p) 0
length-words_of p (e ∷ h) = length-word_step p e (words_of p h) ∙ length-words_of p h

-- ---- the word of an event, and the others

-- whether two words are one
abbrev same_word : Word → Word → Bool
same_word Top Top = true
same_word (Header g h) (Header f k) = eqb h k && eqb g f
same_word (Key g i) (Key f j) = eqb g f && eqb i j
same_word (Value g i) (Value f j) = eqb g f && eqb i j
same_word _ _ = false

-- two tests that pass
both_same : (a b c d : ℕ) → (eqb a b && eqb c d) ≡ true → (a ≡ b) × (c ≡ d)
both_same a b c d e = let s = and_parts (eqb a b) (eqb c d) e in (eqb-true a b s.0, eqb-true c d s.1)

-- both tests pass of the same numbers
pub same_both : (a b : ℕ) → (eqb a a && eqb b b) ≡ true
same_both a b = ap (λ x. x && eqb b b) (eq-eqb a a refl) ∙ eq-eqb b b refl

-- words that the test finds to be one are one
same_word-true : (a b : Word) → same_word a b ≡ true → a ≡ b
same_word-true Top Top e = refl
same_word-true (Header g h) (Header f k) e = let s = both_same h k g f e in cc
same_word-true (Key g i) (Key f j) e = let s = both_same g f i j e in cc
same_word-true (Value g i) (Value f j) e = let s = both_same g f i j e in cc
same_word-true _ _ e = cc

-- and a word is one with itself
same_word-refl : (a : Word) → same_word a a ≡ true
same_word-refl Top = refl
same_word-refl (Header g h) = same_both h g
same_word-refl (Key g i) = same_both g i
same_word-refl (Value g i) = same_both g i

-- What holds of slot j of table f as the event's own, and of slot i of table g as another one,
-- holds of the latter by the test whether it is the event's own.
pub at_slot :
    (P : ℕ → ℕ → Bool → Type 0) (f j g i : ℕ) → P f j true → P g i false
    → P g i (eqb f g && eqb j i)
at_slot P f j g i here elsewhere =
    elim (eqb f g && eqb j i) as (λ t. (eqb f g && eqb j i) ≡ t → P g i t) [
      | true ↦ λ e. let same = both_same f g j i e in subst₂ (λ x y. P x y true) same.0 same.1 here
      | false ↦ λ e. elsewhere
    ] refl

-- the same of tables
pub at_table : (P : ℕ → Bool → Type 0) (f g : ℕ) → P f true → P g false → P g (eqb f g)
at_table P f g here elsewhere =
    elim (eqb f g) as (λ t. eqb f g ≡ t → P g t) [
      | true ↦ λ e. subst (λ x. P x true) (eqb-true f g e) here
      | false ↦ λ e. elsewhere
    ] refl

-- a word changed by what it was, among the others
word-changed :
    (p : Plan) → IsPlan p → (w : List ℕ) → length w ≡ word_count p → (a b : Word) → IsWord p a
    → IsWord p b
    → (f : ℕ → ℕ) → let x = slice_index w (index_of_word p b) in
    slice_index (changed_at w (index_of_word p a) f) (index_of_word p b)
    ≡ cond (same_word a b) (f x) x
word-changed p plan w length_is a b a_word b_word f =
    let indices = indices_are_distinct p plan in
    let index = index_of_word p in
    let u = changed_at w (index a) f in
    let x = slice_index w (index b) in
    cond_both (same_word a b) (f x) x (λ y. slice_index u (index b) ≡ y)
    (λ same. subst (λ b. slice_index u (index b) ≡ f (slice_index w (index b)))
    (same_word-true a b same)
    (get_or-set_same w (index a) (f (slice_index w (index a))) 0
    (omega (arith, indices.below a a_word))))
    (λ other. get_or-set_other w (index a) (index b) (f (slice_index w (index a))) 0 (λ same.
    let one : a ≡ b = indices.distinct a b a_word b_word (sym same) in
    let t : same_word a b ≡ true = ap (same_word a) (sym one) ∙ same_word-refl a in cc))

-- what an event makes of a word
abbrev pub word_after : Plan → Event → Word → ℕ → ℕ
word_after p (Claim s g i k) a x = cond (same_word (Key g i) a) (key_word (Claimed k)) x
word_after p (Kill s g i) a x = cond (same_word (Key g i) a) (key_word Dead) x
word_after p (Won s g i v b c r) a x = cond (same_word (Value g i) a) (value_word b) x
word_after p (CopyIn s g i k n) a x = cond (same_word (Value g i) a) (value_word (Live n)) x
word_after p (Prime s g i) a x = cond (same_word (Value g i) a) (bit_or x 1) x
word_after p (Finish s g i) a x = cond (same_word (Value g i) a) (bit_or x 2) x
word_after p (Install s g k) a x = cond (same_word (Header g 0) a) 1 x
word_after p (Take s g) a x = cond (same_word (Header g 1) a) ((x + chunk_of p g) % 2 ^ 64) x
word_after p (Count s g c) a x = cond (same_word (Header g 2) a) ((x + c) % 2 ^ 64) x
word_after p (Promote s g) a x = cond (same_word Top a) (max x (suc g)) x
word_after p (Read s c r) a x = x

module _ (p : Plan) (plan : IsPlan p) (h : List Event) (a : Word) (a_word : IsWord p a) where
  -- a word of a history after a change of a word
  word-frame_at :
      (b : Word) → IsWord p b → (f : ℕ → ℕ) → let x =
      slice_index (words_of p h) (index_of_word p a) in
      slice_index (changed_at (words_of p h) (index_of_word p b) f) (index_of_word p a)
      ≡ cond (same_word b a) (f x) x
  word-frame_at b b_word f = word-changed p plan (words_of p h) (length-words_of p h)
      b a b_word a_word f

  -- each word after an event
  pub word-frame :
      (e : Event) → IsInRange p e
      → slice_index (words_of p (e ∷ h)) (index_of_word p a)
      ≡ word_after p e a (slice_index (words_of p h) (index_of_word p a))
  word-frame (Claim s g i k) range = word-frame_at (Key g i) range.1 (λ x. key_word (Claimed k))
  word-frame (Kill s g i) range = word-frame_at (Key g i) range.1 (λ x. key_word Dead)
  word-frame (Won s g i v b c r) range = word-frame_at (Value g i) range.1 (λ x. value_word b)
  word-frame (CopyIn s g i k n) range = word-frame_at (Value g i) range.1 (λ x. value_word (Live n))
  word-frame (Prime s g i) range = word-frame_at (Value g i) range.1 (λ x. bit_or x 1)
  word-frame (Finish s g i) range = word-frame_at (Value g i) range.1 (λ x. bit_or x 2)
  word-frame (Install s g k) range = word-frame_at (Header g 0) (range.1, omega arith) (λ x. 1)
  word-frame (Take s g) range = word-frame_at (Header g 1) (range.1, omega arith)
      (λ x. (x + chunk_of p g) % 2 ^ 64)
  word-frame (Count s g c) range = word-frame_at (Header g 2) (range.1, omega arith)
      (λ x. (x + c) % 2 ^ 64)
  word-frame (Promote s g) range = word-frame_at Top tt (λ x. max x (suc g))
  word-frame (Read s c r) range = refl

-- before any event
pub word-first :
    (p : Plan) → IsPlan p → (a : Word) → IsWord p a
    → slice_index (words_of p []) (index_of_word p a) ≡ 0
word-first p plan a a_word = get_or-replicate (word_count p) (index_of_word p a) 0 0
    ((indices_are_distinct p plan).below a a_word)

-- ---- no event changes two words

-- to put one word changes no other
put-elsewhere :
    (w : List ℕ) (at v a : ℕ) → slice_index (slice_set w at v) a ≢ slice_index w a → a ≡ at
put-elsewhere w at v a changed =
    elim (eqb_tells a at) [
      | inl same ↦ same.1
      | inr other ↦ absurd (changed (get_or-set_other w at a v 0 other.1))
    ]

-- an event changes one word at most
pub one_word :
    (p : Plan) (e : Event) (w : List ℕ) (a b : ℕ)
    → slice_index (word_step p e w) a ≢ slice_index w a
    → slice_index (word_step p e w) b ≢ slice_index w b → a ≡ b
one_word p (Read s c r) w a b a_changed b_changed = absurd (a_changed refl)
one_word p _ w a b a_changed b_changed = put-elsewhere w _ _ a a_changed
    ∙ sym (put-elsewhere w _ _ b b_changed)
