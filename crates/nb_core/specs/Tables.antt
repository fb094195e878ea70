-- The words of a chain of tables after a history, and what they say of its slots.
use Rattle.std.specs.Prelude.{◌≡◌, ◌≢◌, ℕ, suc, zero, ◌+◌, ◌%◌, ◌^◌, ◌<◌, ◌⊎◌, ◌||◌, min, max, bit_or, Bool, true, false, if◌then◌else◌, IsTrue, List, [], ◌∷◌, replicate, slice_index, slice_set}
use Rattle.nb_core.specs.Plans.{Plan, generations_of, header_place, key_place, size_of, value_place, word_count}
use Rattle.nb_core.specs.States.{key_state, key_word, value_in_word, value_word}
use Rattle.nb_core.specs.declared.events.Event.{Event}
use Rattle.nb_core.specs.declared.events.Event.TheVariants.{Claim, Kill, Won, CopyIn, Prime, Finish, Install, Take, Count, Promote, Read}
use Rattle.nb_core.specs.declared.states.KeyState.{KeyState}
use Rattle.nb_core.specs.declared.states.KeyState.TheVariants.{Empty, Dead, Claimed}
use Rattle.nb_core.specs.declared.states.ValueState.{ValueState}
use Rattle.nb_core.specs.declared.states.ValueState.TheVariants.{Null, Tombstone, Live, PrimedNull, PrimedTombstone, Primed, Finished}

-- ---- words

-- how many slots are handed out at once
abbrev pub chunk_of : Plan → ℕ → ℕ
chunk_of p g = min (size_of p g) p.chunk

-- the words with one changed by what it was
abbrev pub changed_at : List ℕ → ℕ → (ℕ → ℕ) → List ℕ
changed_at w index f = slice_set w index (f (slice_index w index))

-- an event changes one word, or none
abbrev pub word_step : Plan → Event → List ℕ → List ℕ
word_step p (Claim s g i k) w = slice_set w (key_place p g i) (key_word (Claimed k))
word_step p (Kill s g i) w = slice_set w (key_place p g i) (key_word Dead)
word_step p (Won s g i a b c r) w = slice_set w (value_place p g i) (value_word b)
word_step p (CopyIn s g i k n) w = slice_set w (value_place p g i) (value_word (Live n))
word_step p (Prime s g i) w = changed_at w (value_place p g i) (λ x. bit_or x 1)
word_step p (Finish s g i) w = changed_at w (value_place p g i) (λ x. bit_or x 2)
word_step p (Install s g k) w = slice_set w (header_place p g 0) 1
word_step p (Take s g) w = changed_at w (header_place p g 1) (λ x. (x + chunk_of p g) % 2 ^ 64)
word_step p (Count s g c) w = changed_at w (header_place p g 2) (λ x. (x + c) % 2 ^ 64)
word_step p (Promote s g) w = changed_at w 0 (λ x. max x (suc g))
word_step p (Read s c r) w = w

-- A history is a list of events, the newest first. All words are 0 before it.
abbrev pub words_of : Plan → List Event → List ℕ
words_of p [] = replicate (word_count p) 0
words_of p (e ∷ h) = word_step p e (words_of p h)

-- ---- tables

-- what the words of a chain say: of each slot its key and value, and the headers
pub record Tables : Type 0 where
  pub key : ℕ → ℕ → KeyState
  pub value : ℕ → ℕ → ValueState
  pub next : ℕ → ℕ
  pub taken : ℕ → ℕ
  pub counted : ℕ → ℕ
  pub top : ℕ

-- what a list of words says; a value word that no state has, which no legal history writes, is read
-- as null
abbrev pub tables_of : Plan → List ℕ → Tables
tables_of p w = record {
  key = λ g i. key_state (slice_index w (key_place p g i));
  value = λ g i. value_in_word (slice_index w (value_place p g i));
  next = λ g. slice_index w (header_place p g 0);
  taken = λ g. slice_index w (header_place p g 1);
  counted = λ g. slice_index w (header_place p g 2);
  top = slice_index w 0;
}

abbrev pub tables_at : Plan → List Event → Tables
tables_at p h = tables_of p (words_of p h)

-- ---- slots

abbrev pub IsSlot : Plan → ℕ → ℕ → Type 0
IsSlot p g i = (g < generations_of p) × (i < size_of p g)

-- the slot at distance d on the path of a key, which begins at its home slot
abbrev pub path_slot : Plan → ℕ → ℕ → ℕ → ℕ
path_slot p g k d = (k + d) % size_of p g

abbrev pub IsUnprimed : ValueState → Type 0
IsUnprimed Null = Unit {0}
IsUnprimed Tombstone = Unit {0}
IsUnprimed (Live n) = Unit {0}
IsUnprimed PrimedNull = ⊥
IsUnprimed PrimedTombstone = ⊥
IsUnprimed (Primed n) = ⊥
IsUnprimed (Finished n) = ⊥

-- whether the value is final: it is primed, and has nothing left to copy
abbrev pub is_finished_value : ValueState → Bool
is_finished_value Null = false
is_finished_value Tombstone = false
is_finished_value (Live n) = false
is_finished_value PrimedNull = true
is_finished_value PrimedTombstone = true
is_finished_value (Primed n) = false
is_finished_value (Finished n) = true

abbrev pub IsFinishedValue : ValueState → Type 0
IsFinishedValue v = IsTrue (is_finished_value v)

-- a slot is finished if it is closed to keys, or its value is final
abbrev pub IsFinished : Tables → ℕ → ℕ → Type 0
IsFinished t g i = (t.key g i ≡ Dead) ⊎ IsFinishedValue (t.value g i)

abbrev pub IsComplete : Plan → Tables → ℕ → Type 0
IsComplete p t g = (i : ℕ) → i < size_of p g → IsFinished t g i

-- the table below, if there is one, is complete
abbrev pub IsReady : Plan → Tables → ℕ → Type 0
IsReady p t zero = Unit {0}
IsReady p t (suc g) = IsComplete p t g

-- table 0 is there from the start, and another once the one below it has a next
abbrev pub IsInstalled : Tables → ℕ → Type 0
IsInstalled t zero = Unit {0}
IsInstalled t (suc g) = t.next g ≡ 1

-- the slot is claimed by another key
pub record IsOther (s : KeyState) (k : ℕ) : Type 0 where
  pub other : ℕ
  pub is : s ≡ Claimed other
  pub differs : other ≢ k

-- the first d slots of the key's path are claimed by other keys
abbrev pub AreOthers : Plan → Tables → ℕ → ℕ → ℕ → Type 0
AreOthers p t g k d = (e : ℕ) → e < d → IsOther (t.key g (path_slot p g k e)) k

-- the slot lies on the key's path, behind slots of other keys
pub record IsOnPath (p : Plan) (t : Tables) (g i k : ℕ) : Type 0 where
  pub distance : ℕ
  pub in_table : distance < size_of p g
  pub at : path_slot p g k distance ≡ i
  pub passed : AreOthers p t g k distance

-- the key has a slot in the table
pub record HasSlot (p : Plan) (t : Tables) (g k : ℕ) : Type 0 where
  pub slot : ℕ
  pub in_table : slot < size_of p g
  pub is : t.key g slot ≡ Claimed k

abbrev pub HasSlotBelow : Plan → Tables → ℕ → ℕ → Type 0
HasSlotBelow p t zero k = ⊥
HasSlotBelow p t (suc g) k = HasSlot p t g k

-- the key has no slot in the table below that isn't finished
abbrev pub IsSettledBelow : Plan → Tables → ℕ → ℕ → Type 0
IsSettledBelow p t zero k = Unit {0}
IsSettledBelow p t (suc g) k =
    (i : ℕ) → i < size_of p g → t.key g i ≡ Claimed k → IsFinishedValue (t.value g i)

-- ---- what a seat may find

-- the value is a number, or the tombstone that took its place, primed or not
abbrev pub HasContent : ValueState → Type 0
HasContent Null = ⊥
HasContent Tombstone = Unit {0}
HasContent (Live n) = Unit {0}
HasContent PrimedNull = ⊥
HasContent PrimedTombstone = Unit {0}
HasContent (Primed n) = Unit {0}
HasContent (Finished n) = Unit {0}

-- the slot has this number primed, or finished
abbrev pub IsPrimedOrFinished : Tables → ℕ → ℕ → ℕ → Type 0
IsPrimedOrFinished t g i n = (t.value g i ≡ Primed n) ⊎ (t.value g i ≡ Finished n)

-- A call need not look for the key in this table any more: the key's slot is finished, or other
-- keys have its path, up to a closed slot or whole.
pub data IsPassed (p : Plan) (t : Tables) (g k : ℕ) : Type 0 where
  AtSlot : (i : ℕ) → i < size_of p g → t.key g i ≡ Claimed k → IsFinishedValue (t.value g i)
      → IsPassed p t g k
  UpToDead : (d : ℕ) → d < size_of p g → AreOthers p t g k d → t.key g (path_slot p g k d) ≡ Dead
      → IsPassed p t g k
  Whole : AreOthers p t g k (size_of p g) → IsPassed p t g k

abbrev pub is_dead : KeyState → Bool
is_dead Empty = false
is_dead Dead = true
is_dead (Claimed k) = false

-- how many of the first n slots of a table are finished
abbrev pub finished_among : Tables → ℕ → ℕ → ℕ
finished_among t g zero = 0
finished_among t g (suc n) =
    (if is_dead (t.key g n) || is_finished_value (t.value g n) then 1 else 0) + finished_among t g n
