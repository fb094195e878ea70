-- Legal histories: when an event may follow, and the map that a history stands for.
use Rattle.std.specs.Prelude.{◌≡◌, ◌≢◌, ℕ, suc, zero, ◌+◌, ◌<◌, ◌≤◌, ◌⊎◌, ◌==◌, ◌&&◌, Bool, true, false, if◌then◌else◌, List, [], ◌∷◌, ◌++◌, length, Option, Some, None, MatchOption}
use Rattle.std.specs.FinMap as map
use Rattle.std.specs.Option.{option_map_or}
use Rattle.nb_core.specs.Calls.{overflows}
use Rattle.nb_core.specs.Log.{Numbers, changed, holds_of, map_after, reply_of}
use Rattle.nb_core.specs.Plans.{Plan, generations_of, limit_of, size_of}
use Rattle.nb_core.specs.States.{IsValueState}
use Rattle.nb_core.specs.Tables.{AreOthers, HasSlotBelow, IsComplete, IsInstalled, IsOnPath, IsReady, IsSettledBelow, IsSlot, IsUnprimed, Tables, tables_at}
use Rattle.nb_core.specs.declared.numbers.TheConstants.{KEY_MAX, VALUE_MAX}
use Rattle.nb_core.specs.declared.calls.Call.{Call}
use Rattle.nb_core.specs.declared.calls.Call.TheVariants as call
use Rattle.nb_core.specs.declared.calls.Change.{Change}
use Rattle.nb_core.specs.declared.calls.Change.TheVariants as change
use Rattle.nb_core.specs.declared.calls.Want.{Want}
use Rattle.nb_core.specs.declared.calls.Want.TheVariants as want
use Rattle.nb_core.specs.declared.events.Event.{Event}
use Rattle.nb_core.specs.declared.events.Event.TheVariants.{Claim, Kill, Won, CopyIn, Prime, Finish, Install, Take, Count, Promote, Read}
use Rattle.nb_core.specs.declared.states.KeyState.TheVariants.{Empty, Claimed}
use Rattle.nb_core.specs.declared.states.ValueState.{ValueState}
use Rattle.nb_core.specs.declared.states.ValueState.TheVariants.{Null, Tombstone, Live, PrimedNull, PrimedTombstone, Primed, Finished}

-- ---- when an event may follow

-- A key has a way to a slot of its path behind slots of other keys: at any distance where the key
-- has a slot in the table below, and else within the limit, once the table below, if there is one,
-- is complete.
pub record HasWay (p : Plan) (t : Tables) (g i k : ℕ) : Type 0 where
  pub path : IsOnPath p t g i k
  pub reason : HasSlotBelow p t g k ⊎ (IsReady p t g × (path.distance < limit_of p g))

-- A key is claimed in the first slot of its path that isn't another key's, if it is empty and the
-- key has a way to it.
pub record MayClaim (p : Plan) (t : Tables) (g i k : ℕ) : Type 0 where
  pub installed : IsInstalled t g
  pub empty : t.key g i ≡ Empty
  pub way : HasWay p t g i k

-- Once there is a next table, a slot without a key may be closed.
pub record MayKill (t : Tables) (g i : ℕ) : Type 0 where
  pub growing : IsInstalled t (suc g)
  pub empty : t.key g i ≡ Empty

-- the number in a value, if there is one
abbrev pub number_in_value : ValueState → Option ℕ
number_in_value Null = None
number_in_value Tombstone = None
number_in_value (Live n) = Some n
number_in_value PrimedNull = None
number_in_value PrimedTombstone = None
number_in_value (Primed n) = Some n
number_in_value (Finished n) = Some n

-- what a change puts in place of a value: another number, or a tombstone for a number
abbrev pub Exchanges : Change → ValueState → ValueState → Type 0
Exchanges change a b = MatchOption (changed change (number_in_value a))
    ((b ≡ Tombstone) × ((n : ℕ) × (a ≡ Live n)))
    (λ n. (b ≡ Live n) × (b ≢ a) × (n ≤ VALUE_MAX))

-- the call is a write of this key whose condition holds of a, and puts b in its place
abbrev pub IsExchange : Call → ℕ → ValueState → ValueState → Type 0
IsExchange (call.Get key) k a b = ⊥
IsExchange (call.Write key want change) k a b =
    (key ≡ k) × (holds_of want (number_in_value a) ≡ true) × Exchanges change a b

-- A call exchanges the value of its key, once the key has no unfinished slot in the table below.
pub record MayWin (p : Plan) (t : Tables) (g i : ℕ) (a b : ValueState) (c : Call) : Type 0 where
  pub key : ℕ
  pub claimed : t.key g i ≡ Claimed key
  pub stands : t.value g i ≡ a
  pub unprimed : IsUnprimed a
  pub settled : IsSettledBelow p t g key
  pub exchange : IsExchange c key a b

-- the key's slot in the table below is primed with this number
abbrev pub IsPrimedBelow : Plan → Tables → ℕ → ℕ → ℕ → Type 0
IsPrimedBelow p t zero k n = ⊥
IsPrimedBelow p t (suc g) k n =
    (i : ℕ) × (i < size_of p g) × (t.key g i ≡ Claimed k) × (t.value g i ≡ Primed n)

-- A copier stores over null alone.
pub record MayCopyIn (p : Plan) (t : Tables) (g i k n : ℕ) : Type 0 where
  pub claimed : t.key g i ≡ Claimed k
  pub null : t.value g i ≡ Null
  pub primed : IsPrimedBelow p t g k n

-- A value is primed once there is a next table.
pub record MayPrime (t : Tables) (g i : ℕ) : Type 0 where
  pub growing : IsInstalled t (suc g)
  pub key : ℕ
  pub claimed : t.key g i ≡ Claimed key
  pub unprimed : IsUnprimed (t.value g i)

-- the key has a slot in the table whose value isn't null
pub record HasValue (p : Plan) (t : Tables) (g k : ℕ) : Type 0 where
  pub slot : ℕ
  pub in_table : slot < size_of p g
  pub is : t.key g slot ≡ Claimed k
  pub some : t.value g slot ≢ Null

-- A primed number is finished only after its key has a value in the next table.
pub record MayFinish (p : Plan) (t : Tables) (g i : ℕ) : Type 0 where
  pub key : ℕ
  pub number : ℕ
  pub claimed : t.key g i ≡ Claimed key
  pub primed : t.value g i ≡ Primed number
  pub copied : HasValue p t (suc g) key

-- A table is followed by another where a key's path is crowded up to the limit, and the table below
-- is complete.
pub record MayInstall (p : Plan) (t : Tables) (g k : ℕ) : Type 0 where
  pub room : suc g < generations_of p
  pub no_next : t.next g ≡ 0
  pub ready : IsReady p t g
  pub crowded : AreOthers p t g k (limit_of p g)

-- Chunks of a table are handed out once there is a next table.
abbrev pub MayTake : Tables → ℕ → Type 0
MayTake t g = IsInstalled t (suc g)

-- the value is a null or a tombstone that isn't primed: priming finishes it
abbrev pub is_finished_by_priming : ValueState → Bool
is_finished_by_priming Null = true
is_finished_by_priming Tombstone = true
is_finished_by_priming _ = false

-- the seat of an event
abbrev pub seat_of_event : Event → ℕ
seat_of_event (Claim s g i k) = s
seat_of_event (Kill s g i) = s
seat_of_event (Won s g i a b c r) = s
seat_of_event (CopyIn s g i k n) = s
seat_of_event (Prime s g i) = s
seat_of_event (Finish s g i) = s
seat_of_event (Install s g k) = s
seat_of_event (Take s g) = s
seat_of_event (Count s g c) = s
seat_of_event (Promote s g) = s
seat_of_event (Read s c r) = s

-- the slot that the event, coming after the history, turned finished, if it did: its table, and its
-- place there
abbrev pub turned_slot : Plan → List Event → Event → Option (ℕ × ℕ)
turned_slot p h (Kill s g i) = Some (g, i)
turned_slot p h (Finish s g i) = Some (g, i)
turned_slot p h (Prime s g i) =
    if is_finished_by_priming ((tables_at p h).value g i) then Some (g, i) else None
turned_slot p h _ = None

-- whether the event turned this slot finished
abbrev pub turns_slot : Plan → List Event → Event → ℕ → ℕ → Bool
turns_slot p h e g i = option_map_or (λ slot. slot.0 == g && slot.1 == i) (turned_slot p h e) false

-- the slot, if it is one of table g
abbrev pub slot_in : (g : ℕ) → Option (ℕ × ℕ) → List ℕ
slot_in g None = []
slot_in g (Some slot) = if slot.0 == g then slot.1 ∷ [] else []

-- the slot of table g that the event turned finished, if it did and was the seat's
abbrev pub turned_in : Plan → List Event → Event → (s g : ℕ) → List ℕ
turned_in p h e s g = if seat_of_event e == s then slot_in g (turned_slot p h e) else []

-- the slots of table g that the events of a seat turned finished, the newest first
abbrev pub slots_turned : Plan → List Event → (s g : ℕ) → List ℕ
slots_turned p [] s g = []
slots_turned p (e ∷ h) s g = turned_in p h e s g ++ slots_turned p h s g

-- how many they are
abbrev pub turned_by : Plan → List Event → (s g : ℕ) → ℕ
turned_by p h s g = length (slots_turned p h s g)

-- how many slots of a table an event counted, where it was the seat's
abbrev pub counts : Event → ℕ → ℕ → ℕ
counts (Count s' g' c) s g = if s' == s && g' == g then c else 0
counts _ s g = 0

-- how many slots of a table a seat has counted
abbrev pub counted_by : List Event → ℕ → ℕ → ℕ
counted_by [] s g = 0
counted_by (e ∷ h) s g = counts e s g + counted_by h s g

-- A seat counts no more slots than its own events turned finished, over all its counts.
pub record MayCount (p : Plan) (h : List Event) (s g c : ℕ) : Type 0 where
  pub some : 1 ≤ c
  pub own : counted_by h s g + c ≤ turned_by p h s g

-- The top word rises past a table that is complete.
pub record MayPromote (p : Plan) (t : Tables) (g : ℕ) : Type 0 where
  pub complete : IsComplete p t g
  pub higher : t.top ≤ g

-- the event may come next after the history
abbrev pub MayFollow : Plan → List Event → Event → Type 0
MayFollow p h (Claim s g i k) = MayClaim p (tables_at p h) g i k
MayFollow p h (Kill s g i) = MayKill (tables_at p h) g i
MayFollow p h (Won s g i a b c r) = MayWin p (tables_at p h) g i a b c
MayFollow p h (CopyIn s g i k n) = MayCopyIn p (tables_at p h) g i k n
MayFollow p h (Prime s g i) = MayPrime (tables_at p h) g i
MayFollow p h (Finish s g i) = MayFinish p (tables_at p h) g i
MayFollow p h (Install s g k) = MayInstall p (tables_at p h) g k
MayFollow p h (Take s g) = MayTake (tables_at p h) g
MayFollow p h (Count s g c) = MayCount p h s g c
MayFollow p h (Promote s g) = MayPromote p (tables_at p h) g
MayFollow p h (Read s c r) = Unit {0}

-- ---- ranges

-- the number of the condition, if it has one, is a number of the map
abbrev pub IsWantInRange : Want → Type 0
IsWantInRange want.Any = Unit {0}
IsWantInRange want.Absent = Unit {0}
IsWantInRange want.Present = Unit {0}
IsWantInRange (want.Equal n) = n ≤ VALUE_MAX
IsWantInRange (want.Below n) = n ≤ VALUE_MAX

-- the number of the change, if it has one, is a number of the map
abbrev pub IsChangeInRange : Change → Type 0
IsChangeInRange (change.Put n) = n ≤ VALUE_MAX
IsChangeInRange change.Remove = Unit {0}
IsChangeInRange (change.Add n) = n ≤ VALUE_MAX

-- the call's key is a key of the map, and its numbers are numbers of the map
abbrev pub IsCallInRange : Call → Type 0
IsCallInRange (call.Get k) = k ≤ KEY_MAX
IsCallInRange (call.Write k want change) =
    (k ≤ KEY_MAX) × IsWantInRange want × IsChangeInRange change

-- the plan has the event's seat, table and slot, and its keys and numbers are those of the map
abbrev pub IsInRange : Plan → Event → Type 0
IsInRange p (Claim s g i k) = (s < p.seats) × IsSlot p g i × (k ≤ KEY_MAX)
IsInRange p (Kill s g i) = (s < p.seats) × IsSlot p g i
IsInRange p (Won s g i a b c r) =
    (s < p.seats) × IsSlot p g i × IsValueState a × IsValueState b × IsCallInRange c
IsInRange p (CopyIn s g i k n) = (s < p.seats) × IsSlot p g i × (k ≤ KEY_MAX) × (n ≤ VALUE_MAX)
IsInRange p (Prime s g i) = (s < p.seats) × IsSlot p g i
IsInRange p (Finish s g i) = (s < p.seats) × IsSlot p g i
IsInRange p (Install s g k) = (s < p.seats) × (g < generations_of p) × (k ≤ KEY_MAX)
IsInRange p (Take s g) = (s < p.seats) × (g < generations_of p)
IsInRange p (Count s g c) = (s < p.seats) × (g < generations_of p)
IsInRange p (Promote s g) = (s < p.seats) × (g < generations_of p)
IsInRange p (Read s c r) = (s < p.seats) × IsCallInRange c

-- ---- the map, and legality

-- the key of a call
abbrev pub key_of_call : Call → ℕ
key_of_call (call.Get k) = k
key_of_call (call.Write k want change) = k

-- the map with the value that a call's exchange put at its key
abbrev pub after_win : Numbers → ℕ → ValueState → Numbers
after_win m k (Live n) = map.insert m k n
after_win m k Tombstone = map.remove m k
after_win m k _ = m

-- the map that a history stands for: its exchanges, one after another, and nothing else of it
abbrev pub map_of : List Event → Numbers
map_of [] = map.empty
map_of (Won s g i a b c r ∷ h) = after_win (map_of h) (key_of_call c) b
map_of (_ ∷ h) = map_of h

-- A call replies as the map does at its event; a read leaves the map as it is. No call is an add
-- that overflows.
abbrev pub Replies : Numbers → Event → Type 0
Replies m (Won s g i a b c r) = (r ≡ reply_of c m) × (overflows c m ≡ false)
Replies m (Read s c r) = (r ≡ reply_of c m) × (overflows c m ≡ false) × (map_after c m ≡ m)
Replies m _ = Unit {0}

-- every event of the history was one that might come next, and its call replied as the map does
abbrev pub IsLegal : Plan → List Event → Type 0
IsLegal p [] = Unit {0}
IsLegal p (e ∷ h) = IsLegal p h × IsInRange p e × MayFollow p h e × Replies (map_of h) e
