-- What one event changes in the tables, to the letter.
use Rattle.std.proofs.Common.{◌≡◌, ◌∙◌, ℕ, ◌+◌, ◌≤◌, cond, eqb, ◌&&◌, List, [], ◌∷◌, slice_index, bit_or, ap, sym, subst, inl, inr, refl, arith}
use Rattle.std.proofs.Math.ListN.{get_or-eq_default}
use Rattle.std.proofs.lemmas.Bool.{cases_lt, ne_eqb}
use Rattle.std.proofs.lemmas.Bool.Decides.{nat_tests}
use Rattle.std.specs.Option.{unwrap_or}
use Rattle.nb_core.specs.Plans.{Plan, IsPlan, Header, Key, Value, generations_of, value_place}
use Rattle.nb_core.specs.States.{IsValueState, key_state, key_word, value_in_word, value_state, value_word, primed}
use Rattle.nb_core.specs.Tables.{IsSlot, tables_at, words_of}
use Rattle.nb_core.specs.History.{IsInRange, IsLegal}
use Rattle.nb_core.proofs.Codings.{finished-word, primed-word, value_state-word}
use Rattle.nb_core.proofs.Tables.{base_of-le}
use Rattle.nb_core.proofs.Words.{at_slot, length-words_of, word-first, word_after, word-frame}
use Rattle.nb_core.specs.declared.events.Event.{Event}
use Rattle.nb_core.specs.declared.events.Event.TheVariants.{Claim, Kill, Won, CopyIn, Prime, Finish, Install}
use Rattle.nb_core.specs.declared.states.KeyState.{KeyState}
use Rattle.nb_core.specs.declared.states.KeyState.TheVariants.{Empty, Dead, Claimed}
use Rattle.nb_core.specs.declared.states.ValueState.{ValueState}
use Rattle.nb_core.specs.declared.states.ValueState.TheVariants.{Null, Tombstone, Live, PrimedNull, PrimedTombstone, Primed, Finished}

-- a primed number, finished
abbrev pub finished : ValueState → ValueState
finished Null = Null
finished Tombstone = Tombstone
finished (Live n) = Live n
finished PrimedNull = PrimedNull
finished PrimedTombstone = PrimedTombstone
finished (Primed n) = Finished n
finished (Finished n) = Finished n

-- what an event makes of the key in a slot
abbrev pub key_after : Event → ℕ → ℕ → KeyState → KeyState
key_after (Claim s f j k) g i x = cond (eqb f g && eqb j i) (Claimed k) x
key_after (Kill s f j) g i x = cond (eqb f g && eqb j i) Dead x
key_after _ g i x = x

-- what an event makes of the value in a slot
abbrev pub value_after : Event → ℕ → ℕ → ValueState → ValueState
value_after (Won s f j a b c r) g i x = cond (eqb f g && eqb j i) b x
value_after (CopyIn s f j k n) g i x = cond (eqb f g && eqb j i) (Live n) x
value_after (Prime s f j) g i x = cond (eqb f g && eqb j i) (primed x) x
value_after (Finish s f j) g i x = cond (eqb f g && eqb j i) (finished x) x
value_after _ g i x = x

-- ---- keys

-- a key's word stands for it
key_state-word : (s : KeyState) → key_state (key_word s) ≡ s
key_state-word Empty = refl
key_state-word Dead = refl
key_state-word (Claimed k) = grind (arith, nat_tests)

-- what a key's word stands for after an event
key_state-word_after :
    (p : Plan) (e : Event) (g i x : ℕ) → key_state (word_after p e (Key g i) x)
    ≡ key_after e g i (key_state x)
key_state-word_after p (Claim s f j k) g i x =
    at_slot (λ g i here. key_state (cond here (k + 2) x) ≡ cond here (Claimed k) (key_state x))
    f j g i
    (key_state-word (Claimed k)) refl
key_state-word_after p (Kill s f j) g i x =
    at_slot (λ g i here. key_state (cond here 1 x) ≡ cond here Dead (key_state x)) f j g i refl refl
key_state-word_after p _ g i x = refl

-- each key after an event
pub key-frame :
    (p : Plan) (e : Event) (h : List Event) → IsPlan p → IsInRange p e → (g i : ℕ) → IsSlot p g i
    → (tables_at p (e ∷ h)).key g i ≡ key_after e g i ((tables_at p h).key g i)
key-frame p e h plan range g i slot = ap key_state (word-frame p plan h (Key g i) slot e range)
    ∙ key_state-word_after p e g i _

-- ---- values

-- the word is this state's, whose number is the map's
pub record IsWordOf (x : ℕ) (v : ValueState) : Type 0 where
  pub in_range : IsValueState v
  pub is : x ≡ value_word v

-- a primed value's number is the map's, if the value's is
primed-range : (v : ValueState) → IsValueState v → IsValueState (primed v)
primed-range (Live n) range = range
primed-range (Primed n) range = range
primed-range (Finished n) range = range
primed-range _ range = tt

-- a value's word, primed
primed-word_of : (x : ℕ) (v : ValueState) → IsWordOf x v → IsWordOf (bit_or x 1) (primed v)
primed-word_of x v w = record {
  in_range = primed-range v w.in_range;
  is = ap (λ x. bit_or x 1) w.is
      ∙ primed-word v;
}

-- a primed number's word, finished
finished-word_of :
    (x n : ℕ) (v : ValueState) → v ≡ Primed n → IsWordOf x v → IsWordOf (bit_or x 2) (finished v)
finished-word_of x n v primed =
    subst (λ v. IsWordOf x v → IsWordOf (bit_or x 2) (finished v)) (sym primed)
    (λ w. record { in_range = w.in_range; is = ap (λ x. bit_or x 2) w.is ∙ finished-word n })

-- a state's word says that state
says : (x : ℕ) (v : ValueState) → IsWordOf x v → value_in_word x ≡ v
says x v w = ap (λ o. unwrap_or o Null) (ap value_state w.is ∙ value_state-word v w.in_range)

says-itself : (x : ℕ) (v : ValueState) → IsWordOf x v → IsWordOf x (value_in_word x)
says-itself x v w = subst (IsWordOf x) (sym (says x v w)) w

-- the word of a slot's value
abbrev value_word_at : Plan → List Event → ℕ → ℕ → ℕ
value_word_at p h g i = slice_index (words_of p h) (value_place p g i)

-- each value word is a state's: the one that the tables say
abbrev AreValueWords : Plan → List Event → Type 0
AreValueWords p h = (g i : ℕ) → IsSlot p g i
    → IsWordOf (value_word_at p h g i) ((tables_at p h).value g i)

-- what an event makes of a value word is the word of what it makes of the value
word_after-value :
    (p : Plan) (e : Event) (h : List Event) → IsLegal p (e ∷ h) → AreValueWords p h → (g i : ℕ)
    → IsSlot p g i
    → IsWordOf (word_after p e (Value g i) (value_word_at p h g i))
    (value_after e g i ((tables_at p h).value g i))
word_after-value p (Won s f j a b c r) h legal words g i =
    let word = value_word_at p h in
    let value = (tables_at p h).value in
    at_slot (λ g i here. IsSlot p g i → IsWordOf (cond here (value_word b) (word g i))
    (cond here b (value g i))) f j g i
    (λ slot. record { in_range = legal.1.3; is = refl }) (words g i)
word_after-value p (CopyIn s f j k n) h legal words g i =
    let word = value_word_at p h in
    let value = (tables_at p h).value in
    at_slot (λ g i here. IsSlot p g i → IsWordOf (cond here (value_word (Live n)) (word g i))
    (cond here (Live n) (value g i))) f j g i
    (λ slot. record { in_range = legal.1.3; is = refl }) (words g i)
word_after-value p (Prime s f j) h legal words g i =
    let word = value_word_at p h in
    let value = (tables_at p h).value in
    at_slot (λ g i here.
    IsSlot p g i → IsWordOf (cond here (bit_or (word g i) 1) (word g i))
    (cond here (primed (value g i)) (value g i))) f j g i
    (λ slot. primed-word_of _ _ (words f j slot)) (words g i)
word_after-value p (Finish s f j) h legal words g i =
    let word = value_word_at p h in
    let value = (tables_at p h).value in
    at_slot (λ g i here.
    IsSlot p g i → IsWordOf (cond here (bit_or (word g i) 2) (word g i))
    (cond here (finished (value g i)) (value g i))) f j g i
    (λ slot. finished-word_of _ legal.2.number _ legal.2.primed (words f j slot)) (words g i)
word_after-value p _ h legal words g i = words g i

-- the same of the words after the event
next-value_word :
    (p : Plan) (e : Event) (h : List Event) → IsPlan p → IsLegal p (e ∷ h) → AreValueWords p h
    → (g i : ℕ) → IsSlot p g i
    → IsWordOf (value_word_at p (e ∷ h) g i) (value_after e g i ((tables_at p h).value g i))
next-value_word p e h plan legal words g i slot =
    subst (λ x. IsWordOf x (value_after e g i ((tables_at p h).value g i)))
    (sym (word-frame p plan h (Value g i) slot e legal.1))
    (word_after-value p e h legal words g i slot)

-- each value word of a legal history is a state's
pub value_words : (p : Plan) (h : List Event) → IsPlan p → IsLegal p h → AreValueWords p h
value_words p [] plan legal g i slot = says-itself _ Null
    (record { in_range = tt; is = word-first p plan (Value g i) slot })
value_words p (e ∷ h) plan legal g i slot =
    says-itself _ _ (next-value_word p e h plan legal (value_words p h plan legal.0) g i slot)

-- each value after an event of a legal history
pub value-frame :
    (p : Plan) (e : Event) (h : List Event) → IsPlan p → IsLegal p (e ∷ h) → (g i : ℕ)
    → IsSlot p g i
    → (tables_at p (e ∷ h)).value g i ≡ value_after e g i ((tables_at p h).value g i)
value-frame p e h plan legal g i slot = says _ _
    (next-value_word p e h plan legal (value_words p h plan legal.0) g i slot)

-- ---- next words

-- past the last table there are no words
next-past : (p : Plan) (h : List Event) (g : ℕ) → generations_of p ≤ g → (tables_at p h).next g ≡ 0
next-past p h g past = get_or-eq_default (words_of p h) 0
    (omega (arith, length-words_of p h, base_of-le p (generations_of p) g past))

-- no event is of a table that isn't there
after-past :
    (p : Plan) (e : Event) → IsInRange p e → (g : ℕ) → generations_of p ≤ g
    → word_after p e (Header g 0) 0 ≡ 0
after-past p (Install s f k) range g past =
    ap (λ b. cond b 1 0) (ne_eqb f g (λ same. omega (arith, range.1)))
after-past p _ range g past = refl

-- each next word after an event
pub next-frame :
    (p : Plan) (e : Event) (h : List Event) → IsPlan p → IsInRange p e → (g : ℕ)
    → (tables_at p (e ∷ h)).next g ≡ word_after p e (Header g 0) ((tables_at p h).next g)
next-frame p e h plan range g =
    elim (cases_lt g (generations_of p)) [
      | inl within ↦ word-frame p plan h (Header g 0) (within, omega arith) e range
      | inr past ↦
          next-past p (e ∷ h) g past ∙ sym (after-past p e range g past)
          ∙ ap (word_after p e (Header g 0)) (sym (next-past p h g past))
    ]

-- ---- before any event

-- before any event each key is empty,
pub key-first : (p : Plan) → IsPlan p → (g i : ℕ) → IsSlot p g i → (tables_at p []).key g i ≡ Empty
key-first p plan g i slot = ap key_state (word-first p plan (Key g i) slot)

-- each value is null,
pub value-first :
    (p : Plan) → IsPlan p → (g i : ℕ) → IsSlot p g i → (tables_at p []).value g i ≡ Null
value-first p plan g i slot = ap value_in_word (word-first p plan (Value g i) slot)

-- and each next word is 0
pub next-first : (p : Plan) → IsPlan p → (g : ℕ) → (tables_at p []).next g ≡ 0
next-first p plan g =
    elim (cases_lt g (generations_of p)) [
      | inl within ↦ word-first p plan (Header g 0) (within, omega arith)
      | inr past ↦ next-past p [] g past
    ]
