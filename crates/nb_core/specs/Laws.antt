-- The laws of legal histories: what holds at every moment, whatever atomic steps were made, by
-- whom, in which order.
use Rattle.std.specs.Prelude.{◌≡◌, ◌≢◌, ℕ, suc, zero, ◌+◌, ◌-◌, ◌%◌, ◌<◌, ◌≤◌, ◌⊎◌, pos, true, if◌then◌else◌, List, [], ◌∷◌, ◌++◌, length, slice_index, bit_or, Option, Some, None, All}
use Rattle.std.specs.FinMap as map
use Rattle.nb_core.specs.Calls.{leaves_alone}
use Rattle.nb_core.specs.Plans.{Plan, IsPlan, generations_of, header_place, size_of, value_place, word_count}
use Rattle.nb_core.specs.States.{IsKeyState, IsValueState, IsValueWord, primed, value_state, value_word}
use Rattle.nb_core.specs.Tables.{AreOthers, HasContent, HasSlot, IsComplete, IsFinished, IsFinishedValue, IsInstalled, IsOnPath, IsPassed, IsPrimedOrFinished, IsReady, IsSettledBelow, IsSlot, IsUnprimed, Tables, finished_among, path_slot, tables_at, tables_of, words_of}
use Rattle.nb_core.specs.History.{HasValue, IsLegal, MayWin, Replies, number_in_value, counted_by, key_of_call, map_of, seat_of_event, turned_by, turns_slot}
use Rattle.nb_core.specs.Log.{Entry, IsReplayed, calls_of, log_of, map_of_log, reply_at}
use Rattle.nb_core.specs.Meaning.{IsCrowded, Stands, net_of_seats, passed_over, place_of}
use Rattle.nb_core.specs.declared.numbers.TheConstants.{KEY_MAX, VALUE_MAX}
use Rattle.nb_core.specs.declared.calls.Call.{Call}
use Rattle.nb_core.specs.declared.events.Event.{Event}
use Rattle.nb_core.specs.declared.events.Event.TheVariants.{Claim, Kill, Won, CopyIn, Prime, Finish, Read}
use Rattle.nb_core.specs.declared.states.KeyState.{KeyState}
use Rattle.nb_core.specs.declared.states.KeyState.TheVariants.{Empty, Dead, Claimed}
use Rattle.nb_core.specs.declared.states.ValueState.{ValueState}
use Rattle.nb_core.specs.declared.states.ValueState.TheVariants.{Null, Tombstone, Live, Primed, Finished}

-- ---- words

-- There are as many words as the plan says. Each key word and value word stands for a state. A slot
-- without a key has the value null, and the last table's header words are 0.
pub record AreLawful (p : Plan) (words : List ℕ) : Type 0 where
  pub length : length words ≡ word_count p
  pub keys : (g i : ℕ) → IsSlot p g i → IsKeyState ((tables_of p words).key g i)
  pub values : (g i : ℕ) → IsSlot p g i → IsValueWord (slice_index words (value_place p g i))
  pub empty_is_null : (g i : ℕ) → IsSlot p g i → (tables_of p words).key g i ≡ Empty
      → (tables_of p words).value g i ≡ Null
  pub dead_is_null : (g i : ℕ) → IsSlot p g i → (tables_of p words).key g i ≡ Dead
      → (tables_of p words).value g i ≡ Null
  pub last_headers : (n : ℕ) → n < 3 → slice_index words
      (header_place p (generations_of p - 1) n) ≡ 0

abbrev pub LawfulWords : Type 0
LawfulWords =
    (p : Plan) → IsPlan p → (h : List Event) → IsLegal p h → AreLawful p (words_of p h)

-- how an event may change the key in slot i of table g: the slot is its own
abbrev pub IsKeyChange : Event → (g i : ℕ) → KeyState → KeyState → Type 0
IsKeyChange (Claim s f j k) g i from to = (f ≡ g) × (j ≡ i) × (from ≡ Empty) × (to ≡ Claimed k)
IsKeyChange (Kill s f j) g i from to = (f ≡ g) × (j ≡ i) × (from ≡ Empty) × (to ≡ Dead)
IsKeyChange _ g i from to = ⊥

-- a call puts a number in place of null, a tombstone or another number, or a tombstone in place of
-- a number
abbrev pub IsWonChange : ValueState → ValueState → Type 0
IsWonChange Null (Live n) = Unit {0}
IsWonChange Tombstone (Live n) = Unit {0}
IsWonChange (Live m) (Live n) = n ≢ m
IsWonChange (Live m) Tombstone = Unit {0}
IsWonChange _ _ = ⊥

-- How words stand for the states of values.
pub record Codings : Type 0 where
  -- a state's word stands for it, if its number is one of the map
  pub state_of_word : (v : ValueState) → IsValueState v → value_state (value_word v) ≡ Some v
  -- a word that stands for a state is that state's, and the state's number is one of the map
  pub word_of_state : (word : ℕ) (v : ValueState) → value_state word ≡ Some v
      → (word ≡ value_word v) × IsValueState v
  -- to set the lowest bit of a state's word primes the state
  pub prime : (v : ValueState) → bit_or (value_word v) 1 ≡ value_word (primed v)
  -- to set the bit above it in the word of a primed number finishes the number
  pub finish : (n : ℕ) → bit_or (value_word (Primed n)) 2 ≡ value_word (Finished n)
  -- and leaves the word of a finished number as it is
  pub finish_again : (n : ℕ) → bit_or (value_word (Finished n)) 2 ≡ value_word (Finished n)
  -- the words of the states that aren't primed are even, and no others
  pub even : (v : ValueState) → (IsUnprimed v → value_word v % 2 ≡ 0)
      × (value_word v % 2 ≡ 0 → IsUnprimed v)

-- how an event may change the value in slot i of table g: the slot is its own
abbrev pub IsValueChange : Event → (g i : ℕ) → ValueState → ValueState → Type 0
IsValueChange (Won s f j a b c r) g i from to =
    (f ≡ g) × (j ≡ i) × (from ≡ a) × (to ≡ b) × IsWonChange a b
IsValueChange (CopyIn s f j k n) g i from to = (f ≡ g) × (j ≡ i) × (from ≡ Null) × (to ≡ Live n)
IsValueChange (Prime s f j) g i from to = (f ≡ g) × (j ≡ i) × IsUnprimed from × (to ≡ primed from)
IsValueChange (Finish s f j) g i from to =
    (f ≡ g) × (j ≡ i) × ((n : ℕ) × (from ≡ Primed n) × (to ≡ Finished n))
IsValueChange _ g i from to = ⊥

-- The words before an event and after it: one of them changes at most, and a key or a value only in
-- the event's own slot and as its kind may.
pub record IsLawfulChange (p : Plan) (e : Event) (before after : List ℕ) : Type 0 where
  pub one :
      (a b : ℕ) → slice_index after a ≢ slice_index before a
      → slice_index after b ≢ slice_index before b → a ≡ b
  pub keys :
      (g i : ℕ) → IsSlot p g i → let t = tables_of p before in let u = tables_of p after in
      (u.key g i ≡ t.key g i) ⊎ IsKeyChange e g i (t.key g i) (u.key g i)
  pub values :
      (g i : ℕ) → IsSlot p g i → let t = tables_of p before in let u = tables_of p after in
      (u.value g i ≡ t.value g i) ⊎ IsValueChange e g i (t.value g i) (u.value g i)

abbrev pub LawfulChanges : Type 0
LawfulChanges =
    (p : Plan) → IsPlan p → (e : Event) (h : List Event) → IsLegal p (e ∷ h)
    → IsLawfulChange p e (words_of p h) (words_of p (e ∷ h))

-- ---- what the tables stand for

-- At every moment the chain of tables stands for the map that the won exchanges make.
abbrev pub TablesStand : Type 0
TablesStand =
    (p : Plan) → IsPlan p → (h : List Event) → IsLegal p h → Stands p (words_of p h) (map_of h)

-- A key has at most one slot in a table.
abbrev pub HasOneSlot : Type 0
HasOneSlot =
    (p : Plan) → IsPlan p → (h : List Event) → IsLegal p h → (g i j k : ℕ) → IsSlot p g i
    → IsSlot p g j
    → (tables_at p h).key g i ≡ Claimed k → (tables_at p h).key g j ≡ Claimed k → i ≡ j

-- A slot that has a key, or is closed to keys, stays so for ever, and a finished slot keeps its
-- value too.
pub record Stays (t u : Tables) (g i : ℕ) : Type 0 where
  pub key : t.key g i ≢ Empty → u.key g i ≡ t.key g i
  pub finished : IsFinished t g i → (u.key g i ≡ t.key g i) × (u.value g i ≡ t.value g i)

abbrev pub SlotsStay : Type 0
SlotsStay =
    (p : Plan) → IsPlan p → (later h : List Event) → IsLegal p (later ++ h) → (g i : ℕ)
    → IsSlot p g i
    → Stays (tables_at p h) (tables_at p (later ++ h)) g i

-- A value that was ever a number or a tombstone is never null again, primed or not.
abbrev pub ContentOnce : Type 0
ContentOnce =
    (p : Plan) → IsPlan p → (later h : List Event) → IsLegal p (later ++ h) → (g i : ℕ)
    → IsSlot p g i
    → HasContent ((tables_at p h).value g i) → HasContent ((tables_at p (later ++ h)).value g i)

-- A table is installed only where the one two below it is complete, so at most two tables have
-- values to copy or to change.
abbrev pub InstalledAfter : Type 0
InstalledAfter =
    (p : Plan) → IsPlan p → (h : List Event) → IsLegal p h → (g : ℕ)
    → IsInstalled (tables_at p h) (suc (suc g))
    → IsComplete p (tables_at p h) g

-- ---- what a look at the tables decides

-- What a table shows of the key. It shows none where other keys have the key's path up to an empty
-- slot, and where they have all of the path and there is no next table. The key's own slot shows
-- the number in it, or none for a null or a tombstone, as long as its value isn't primed.
pub data Shows (p : Plan) (t : Tables) (g k : ℕ) (number : Option ℕ) : Type 0 where
  AtEmpty : (d : ℕ) → d < size_of p g → AreOthers p t g k d → t.key g (path_slot p g k d) ≡ Empty
      → number ≡ None → Shows p t g k number
  AtValue : (i : ℕ) → i < size_of p g → t.key g i ≡ Claimed k → IsUnprimed (t.value g i)
      → number ≡ number_in_value (t.value g i) → Shows p t g k number
  NoNext : AreOthers p t g k (size_of p g) → t.next g ≡ 0 → number ≡ None → Shows p t g k number
  InLast : AreOthers p t g k (size_of p g) → suc g ≡ generations_of p → number ≡ None
      → Shows p t g k number

-- Where the key is passed in all tables below an installed one, what that one shows of it is what
-- the map has.
abbrev pub Decided : Type 0
Decided =
    (p : Plan) → IsPlan p → (h : List Event) → IsLegal p h → (g k : ℕ) → g < generations_of p
    → IsInstalled (tables_at p h) g
    → ((f : ℕ) → f < g → IsPassed p (tables_at p h) f k) → (number : Option ℕ)
    → Shows p (tables_at p h) g k number → map.get (map_of h) k ≡ number

-- ---- growth

-- how many events turned the slot finished
abbrev pub times_turned : Plan → List Event → ℕ → ℕ → ℕ
times_turned p [] g i = 0
times_turned p (e ∷ h) g i = (if turns_slot p h e g i then 1 else 0) + times_turned p h g i

-- the sum of a number over the first n seats
abbrev pub over_seats : (ℕ → ℕ) → ℕ → ℕ
over_seats f zero = 0
over_seats f (suc n) = f n + over_seats f n

-- Exactly one event turned each finished slot finished; none turned one that isn't. A seat counts
-- at most what its own events turned; the done word is what all seats counted, at most the number
-- of finished slots; where it is the size, all are.
pub record AreCountedOnce (p : Plan) (h : List Event) (g : ℕ) : Type 0 where
  pub once : (i : ℕ) → IsSlot p g i → IsFinished (tables_at p h) g i → times_turned p h g i ≡ 1
  pub never : (i : ℕ) → IsSlot p g i → (IsFinished (tables_at p h) g i → ⊥)
      → times_turned p h g i ≡ 0
  pub turned : over_seats (λ s. turned_by p h s g) p.seats
      ≡ finished_among (tables_at p h) g (size_of p g)
  pub own : (s : ℕ) → counted_by h s g ≤ turned_by p h s g
  pub done : (tables_at p h).counted g ≡ over_seats (λ s. counted_by h s g) p.seats
  pub within : (tables_at p h).counted g ≤ finished_among (tables_at p h) g (size_of p g)
  pub fits : (tables_at p h).counted g ≤ size_of p g
  pub whole : (tables_at p h).counted g ≡ size_of p g → IsComplete p (tables_at p h) g

abbrev pub CountedOnce : Type 0
CountedOnce = (p : Plan) → IsPlan p → (h : List Event) → IsLegal p h → (g : ℕ)
    → g < generations_of p → AreCountedOnce p h g

-- the key's path has an empty slot, and up to it other keys alone
pub record HasFreeSlot (p : Plan) (t : Tables) (g k : ℕ) : Type 0 where
  pub distance : ℕ
  pub in_table : distance < size_of p g
  pub passed : AreOthers p t g k distance
  pub empty : t.key g (path_slot p g k distance) ≡ Empty

-- the next table has room for what is still to be copied from table g
pub record HasRoom (p : Plan) (t : Tables) (g : ℕ) : Type 0 where
  pub claimed : (k : ℕ) → HasSlot p t (suc g) k → HasSlot p t g k
  pub alive : (i : ℕ) → i < size_of p (suc g) → t.key (suc g) i ≢ Dead
  pub free : (k : ℕ) → HasSlot p t g k → (HasSlot p t (suc g) k → ⊥) → HasFreeSlot p t (suc g) k

-- While a table isn't complete the next one has room for it, whatever writers do, also where both
-- have the same size.
abbrev pub Room : Type 0
Room =
    (p : Plan) → IsPlan p → (h : List Event) → IsLegal p h → (g : ℕ) → suc g < generations_of p
    → (IsComplete p (tables_at p h) g → ⊥)
    → HasRoom p (tables_at p h) g

-- A key that the last table has no slot left for is absent.
abbrev pub CrowdedAbsent : Type 0
CrowdedAbsent = (p : Plan) → IsPlan p → (h : List Event) → IsLegal p h → (k : ℕ) → IsCrowded p h k
    → map.get (map_of h) k ≡ None

-- The first place of a key from a table on is the same for ever.
abbrev pub OnePlace : Type 0
OnePlace =
    (p : Plan) → IsPlan p → (later h : List Event) → IsLegal p (later ++ h) → (g k : ℕ)
    → (place : ℕ × ℕ) → place_of p h g k ≡ Some place
    → place_of p (later ++ h) g k ≡ Some place

-- ---- the size

-- What all seats' calls added, less what they took out, is the number of keys.
abbrev pub SizeIsNet : Type 0
SizeIsNet = (p : Plan) → IsPlan p → (h : List Event) → IsLegal p h
    → net_of_seats (log_of h) p.seats ≡ pos (length (map.entries (map_of h)))

-- ---- the log

-- The log of a history is replayed and leaves the history's map, and each of its entries is of one
-- of the seats.
pub record HasLog (p : Plan) (h : List Event) : Type 0 where
  pub replayed : IsReplayed (log_of h)
  pub map : map_of_log (log_of h) ≡ map_of h
  pub seats : All (λ entry. entry.seat < p.seats) (log_of h)

abbrev pub LogIsReplayed : Type 0
LogIsReplayed = (p : Plan) → IsPlan p → (h : List Event) → IsLegal p h → HasLog p h

-- The calls of a log that goes on from another are those that are new, and those of the other.
abbrev pub CallsAppend : Type 0
CallsAppend = (s : ℕ) (later log : List Entry)
    → calls_of s (later ++ log) ≡ calls_of s later ++ calls_of s log

-- ---- what a seat may rely on

-- Each beginning of a legal history is legal.
abbrev pub BeginningsAreLegal : Type 0
BeginningsAreLegal = (p : Plan) (later h : List Event) → IsLegal p (later ++ h) → IsLegal p h

-- what is still so in later tables
pub record Lasts (p : Plan) (t u : Tables) : Type 0 where
  -- a table that is there
  pub installed : (g : ℕ) → IsInstalled t g → IsInstalled u g
  -- the key in a slot
  pub claimed : (g i k : ℕ) → IsSlot p g i → t.key g i ≡ Claimed k → u.key g i ≡ Claimed k
  -- a slot that is closed to keys
  pub dead : (g i : ℕ) → IsSlot p g i → t.key g i ≡ Dead → u.key g i ≡ Dead
  -- other keys along the path of a key
  pub others : (g k d : ℕ) → g < generations_of p → AreOthers p t g k d → AreOthers p u g k d
  -- a table in which a call need not look for the key any more
  pub passed : (g k : ℕ) → g < generations_of p → IsPassed p t g k → IsPassed p u g k
  -- a key with a slot
  pub has_slot : (g k : ℕ) → g < generations_of p → HasSlot p t g k → HasSlot p u g k
  -- a key with a slot whose value isn't null
  pub has_value : (g k : ℕ) → g < generations_of p → HasValue p t g k → HasValue p u g k
  -- a value that isn't null
  pub not_null : (g i : ℕ) → IsSlot p g i → t.value g i ≢ Null → u.value g i ≢ Null
  -- a value that was ever a number or a tombstone
  pub content : (g i : ℕ) → IsSlot p g i → HasContent (t.value g i) → HasContent (u.value g i)
  -- a number that is primed, or finished
  pub primed_or_finished : (g i n : ℕ) → IsSlot p g i → IsPrimedOrFinished t g i n
      → IsPrimedOrFinished u g i n
  -- a final value
  pub final : (g i : ℕ) → IsSlot p g i → IsFinishedValue (t.value g i) → u.value g i ≡ t.value g i
  -- a finished slot
  pub finished : (g i : ℕ) → IsSlot p g i → IsFinished t g i → IsFinished u g i
  -- a complete table
  pub complete : (g : ℕ) → g < generations_of p → IsComplete p t g → IsComplete p u g
  -- that the table below, if there is one, is complete
  pub ready : (g : ℕ) → g < generations_of p → IsReady p t g → IsReady p u g
  -- that a key with a slot here has no unfinished slot in the table below
  pub settled : (g k : ℕ) → g < generations_of p → HasSlot p t g k → IsSettledBelow p t g k
      → IsSettledBelow p u g k
  -- the top word, which never falls
  pub top : t.top ≤ u.top

-- What a seat has seen of a claimed key, a finished slot, a passed key and the like is so for ever.
abbrev pub SeenLasts : Type 0
SeenLasts = (p : Plan) → IsPlan p → (later h : List Event) → IsLegal p (later ++ h)
    → Lasts p (tables_at p h) (tables_at p (later ++ h))

-- Where a key's number is finished, the key has a value in the next table.
abbrev pub Moved : Type 0
Moved =
    (p : Plan) → IsPlan p → (h : List Event) → IsLegal p h → (g i k n : ℕ) → IsSlot p g i
    → (tables_at p h).key g i ≡ Claimed k
    → (tables_at p h).value g i ≡ Finished n → HasValue p (tables_at p h) (suc g) k

-- Every key is passed in a complete table.
abbrev pub CompletePassed : Type 0
CompletePassed =
    (p : Plan) → IsPlan p → (h : List Event) → IsLegal p h → (g k : ℕ) → g < generations_of p
    → IsComplete p (tables_at p h) g
    → IsPassed p (tables_at p h) g k

-- A passed key may be written in the next table.
abbrev pub PassedSettled : Type 0
PassedSettled =
    (p : Plan) → IsPlan p → (h : List Event) → IsLegal p h → (g k : ℕ) → g < generations_of p
    → IsPassed p (tables_at p h) g k
    → IsSettledBelow p (tables_at p h) (suc g) k

-- Where a call may win an exchange, the map has at its key what the call replaces.
abbrev pub WinNumber : Type 0
WinNumber =
    (p : Plan) → IsPlan p → (h : List Event) → IsLegal p h → (g i : ℕ) (a b : ValueState) (c : Call)
    → IsSlot p g i
    → MayWin p (tables_at p h) g i a b c → map.get (map_of h) (key_of_call c) ≡ number_in_value a

-- All tables below the top word are complete.
abbrev pub TopComplete : Type 0
TopComplete =
    (p : Plan) → IsPlan p → (h : List Event) → IsLegal p h → (g : ℕ) → g < (tables_at p h).top
    → (g < generations_of p) × IsComplete p (tables_at p h) g

-- ---- which tables are there, and whose slots they have

-- what the tables that are there have to do with one another
pub record AreLinked (p : Plan) (t : Tables) : Type 0 where
  -- a next word says that there is no next table, or that there is one
  pub next : (g : ℕ) → (t.next g ≡ 0) ⊎ (t.next g ≡ 1)
  -- no more tables are there than the plan has
  pub within : (g : ℕ) → IsInstalled t g → g < generations_of p
  -- the table below one that is there is there too
  pub before : (g : ℕ) → IsInstalled t (suc g) → IsInstalled t g
  -- only a table that is there has keys
  pub claimed : (g i k : ℕ) → IsSlot p g i → t.key g i ≡ Claimed k → IsInstalled t g
  -- a slot is closed to keys only once there is a next table
  pub dead : (g i : ℕ) → IsSlot p g i → t.key g i ≡ Dead → IsInstalled t (suc g)
  -- a value is primed only once there is a next table
  pub primed : (g i : ℕ) → IsSlot p g i → IsUnprimed (t.value g i) ⊎ IsInstalled t (suc g)
  -- above a complete table there is a next one
  pub complete : (g : ℕ) → g < generations_of p → IsComplete p t g → IsInstalled t (suc g)
  -- the top word is the number of a table that is there
  pub top : IsInstalled t t.top

-- Tables come one after another: only one that is there has keys, and only one that has a next one
-- is copied.
abbrev pub TablesAreLinked : Type 0
TablesAreLinked =
    (p : Plan) → IsPlan p → (h : List Event) → IsLegal p h → AreLinked p (tables_at p h)

-- A key's slot lies on its path, behind slots of other keys.
abbrev pub ClaimedOnPath : Type 0
ClaimedOnPath =
    (p : Plan) → IsPlan p → (h : List Event) → IsLegal p h → (g i k : ℕ) → IsSlot p g i
    → (tables_at p h).key g i ≡ Claimed k
    → IsOnPath p (tables_at p h) g i k

-- The slots of a key's path are distinct.
abbrev pub PathsAreDistinct : Type 0
PathsAreDistinct = (p : Plan) (g k d e : ℕ) → d < size_of p g → e < size_of p g
    → path_slot p g k d ≡ path_slot p g k e → d ≡ e

-- Where other keys have a key's whole path in the last table, they have all of its slots.
abbrev pub WholeCrowded : Type 0
WholeCrowded =
    (p : Plan) → IsPlan p → (h : List Event) → IsLegal p h → (k : ℕ)
    → AreOthers p (tables_at p h) (generations_of p - 1) k (size_of p (generations_of p - 1))
    → IsCrowded p h k

-- Where a key has a slot in a table and is passed in the next one, the table is complete: a copier
-- that finds no place above has nothing left to copy.
abbrev pub PassedAbove : Type 0
PassedAbove =
    (p : Plan) → IsPlan p → (h : List Event) → IsLegal p h → (g k : ℕ) → suc g < generations_of p
    → HasSlot p (tables_at p h) g k
    → IsPassed p (tables_at p h) (suc g) k → IsComplete p (tables_at p h) g

-- ---- what other seats did meanwhile

-- Where a seat has made no call since a moment, and another value stands in a key's slot than then,
-- which isn't primed, another seat has won an exchange on the key since: no copy put it there, as
-- the key had no unfinished slot below.
abbrev pub LostExchange : Type 0
LostExchange =
    (p : Plan) → IsPlan p → (later h : List Event) → IsLegal p (later ++ h) → (g i k s : ℕ)
    → IsSlot p g i
    → (tables_at p h).key g i ≡ Claimed k → IsSettledBelow p (tables_at p h) g k
    → IsUnprimed ((tables_at p (later ++ h)).value g i)
    → (tables_at p (later ++ h)).value g i ≢ (tables_at p h).value g i
    → calls_of s (log_of later) ≡ [] → 1 ≤ passed_over (later ++ h) (length h) k s

-- The exchanges that others won since a moment are those up to a later moment, and those since
-- then.
abbrev pub PassedOverAdds : Type 0
PassedOverAdds =
    (later mid h : List Event) (k s : ℕ)
    → passed_over (later ++ (mid ++ h)) (length h) k s
    ≡ passed_over (later ++ (mid ++ h)) (length (mid ++ h)) k s + passed_over (mid ++ h) (length h)
    k s

-- what is a seat's own, and the same after more events: its calls, and what it counted and turned
-- finished in each table
pub record HasOwnStill (p : Plan) (later h : List Event) (s : ℕ) : Type 0 where
  pub calls : calls_of s (log_of (later ++ h)) ≡ calls_of s (log_of h)
  pub counted : (g : ℕ) → counted_by (later ++ h) s g ≡ counted_by h s g
  pub turned : (g : ℕ) → turned_by p (later ++ h) s g ≡ turned_by p h s g

-- Events of other seats change nothing of a seat's own.
abbrev pub OwnLasts : Type 0
OwnLasts = (p : Plan) (later h : List Event) (s : ℕ) → All (λ e. seat_of_event e ≢ s) later
    → HasOwnStill p later h s

-- ---- what a call may reply

-- A call that may win an exchange may reply the number that it replaces, and that its condition
-- held.
abbrev pub WinReplies : Type 0
WinReplies =
    (p : Plan) → IsPlan p → (h : List Event) → IsLegal p h
    → (s g i : ℕ) (a b : ValueState) (c : Call) → IsSlot p g i
    → MayWin p (tables_at p h) g i a b c → Replies (map_of h)
    (Won s g i a b c (record { before = number_in_value a; matched = true }))

-- A call that leaves alone what the map has at its key may reply it.
abbrev pub ReadReplies : Type 0
ReadReplies =
    (p : Plan) → IsPlan p → (h : List Event) → IsLegal p h → (s : ℕ) (c : Call) (number : Option ℕ)
    → map.get (map_of h) (key_of_call c) ≡ number → leaves_alone c number ≡ true
    → Replies (map_of h) (Read s c (reply_at c number))

-- ---- keys of the map

-- The map has keys and numbers of their ranges alone.
abbrev pub MapInRange : Type 0
MapInRange = (p : Plan) → IsPlan p → (h : List Event) → IsLegal p h → (k n : ℕ)
    → map.get (map_of h) k ≡ Some n → (k ≤ KEY_MAX) × (n ≤ VALUE_MAX)

-- The map has no more keys than there are.
abbrev pub FewKeys : Type 0
FewKeys = (p : Plan) → IsPlan p → (h : List Event) → IsLegal p h
    → length (map.entries (map_of h)) ≤ KEY_MAX + 1

-- Where all tables below one are complete, each key of the map has a place from that table on.
abbrev pub HeldHasPlace : Type 0
HeldHasPlace =
    (p : Plan) → IsPlan p → (h : List Event) → IsLegal p h → (g k n : ℕ) → g < generations_of p
    → ((f : ℕ) → f < g → IsComplete p (tables_at p h) f)
    → map.get (map_of h) k ≡ Some n → (place : ℕ × ℕ) × (place_of p h g k ≡ Some place)

-- the slot is the key's, and no table from g on but before the slot's has a slot of the key
pub record IsFirstPlace (p : Plan) (t : Tables) (g k f i : ℕ) : Type 0 where
  pub from : g ≤ f
  pub slot : IsSlot p f i
  pub is : t.key f i ≡ Claimed k
  pub none : (e : ℕ) → g ≤ e → e < f → HasSlot p t e k → ⊥

-- The place of a key from a table on is its slot in the first table there that has one.
abbrev pub PlaceIs : Type 0
PlaceIs =
    (p : Plan) → IsPlan p → (h : List Event) → IsLegal p h → (g k f i : ℕ)
    → (place_of p h g k ≡ Some (f, i) → IsFirstPlace p (tables_at p h) g k f i)
    × (IsFirstPlace p (tables_at p h) g k f i → place_of p h g k ≡ Some (f, i))

-- Each event is of one of the seats. So where a legal history goes on from another, and none of the
-- events that came is of any seat, nothing came: nothing is missing from the other.
abbrev pub NothingIsMissing : Type 0
NothingIsMissing =
    (p : Plan) (h later : List Event) → IsLegal p (later ++ h)
    → ((seat : ℕ) → seat < p.seats → All (λ e. seat_of_event e ≢ seat) later) → later ≡ []
