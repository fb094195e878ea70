-- The calls that the protocol makes in a core, and which event of moving keys each of them is.
use Rattle.std.specs.Prelude.{◌≡◌, ℕ, ◌≤◌, ◌-◌, Bool, true, false, if◌then◌else◌, List, ◌∷◌, ◌++◌, Option, Some, None, Result, Ok, Err}
use Rattle.nb_core.specs.Calls.{leaves_alone}
use Rattle.nb_core.specs.History.{key_of_call}
use Rattle.nb_core.specs.Log.{Entry, IsBeginning, map_of_log, reply_at, reply_of}
use Rattle.nb_core.specs.declared.calls.Call.{Call}
use Rattle.nb_core.specs.declared.calls.Call.TheVariants.{Get, Write}
use Rattle.nb_core.specs.declared.calls.Change.{Change}
use Rattle.nb_core.specs.declared.calls.Change.TheVariants.{Add}
use Rattle.nb_core.specs.declared.calls.Reply.{Reply}
use Rattle.nb_core.specs.declared.calls.Want.{Want}
use Rattle.nb_core.specs.declared.calls.Want.TheVariants.{Any, Below}
use Rattle.nb_map.specs.FirstPut.{HasHad, first_entry}
use Rattle.nb_map.specs.Logs.{HasReplied, log}
use Rattle.nb_map.specs.Maps.{SeatOf}
use Rattle.nb_map.specs.NamedCalls.{add_below_of, add_of, exchange_of, put_below_of, put_if_absent_of, put_of, remove_below_of, remove_of}
use Rattle.nb_migration.specs.Numbers.{seen_of}
use Rattle.nb_migration.specs.Settling.{close_of, freeze_of, mark_of}
use Rattle.nb_migration.specs.Writes.{IsOpenWrite, answer_to}
use Rattle.nb_migration.specs.declared.numbers.Seen.{Seen}
use Rattle.nb_migration.specs.declared.numbers.Seen.TheVariants as seen
use Rattle.nb_migration.specs.declared.numbers.TheConstants.{USER_END, USER_MAX}
use Rattle.nb_migration.specs.declared.writes.CoreFault.{CoreFault}
use Rattle.nb_migration.specs.declared.writes.Written.{Written}
use Rattle.nb_migration.specs.declared.writes.Written.TheVariants.{Moved}
use Rattle.nb_moving.specs.Moving.{HasSeenFrozen, had_number, has_core, is_reached, link_of, row_of, state_in}
use Rattle.nb_moving.specs.declared.events.Event.{Event}
use Rattle.nb_moving.specs.declared.events.Event.TheVariants as event
use Rattle.nb_moving.specs.declared.events.State.TheVariants.{Full}

-- ---- the calls

-- the condition of a user's write as it is made in a core: one that every number meets is met by the
-- user's numbers alone
abbrev pub open_want : Want → Change → Want
open_want Any (Add d) = Below (USER_END - d)
open_want Any change = Below USER_END
open_want want change = want

-- a user's write as it is made in a core
abbrev pub open_call : Call → Call
open_call (Get k) = Get k
open_call (Write k want change) = Write k (open_want want change) change

-- a call that a thread makes in a core
pub data CoreCall : Type 0 where
  -- a look, and whether a user's get is answered by what it shows
  Looks : (answers : Bool) → (key : ℕ) → CoreCall
  -- a user's write, and whether the user is answered by it where it changes nothing
  Writes : (answers : Bool) → (write : Call) → CoreCall
  Freezes : (key number : ℕ) → CoreCall
  -- a mark, since the number has come to core `to`, or had come
  Marks : (to key number : ℕ) → CoreCall
  -- a close of a key that has no number, and whether it had one
  Closes : (key : ℕ) → (had : Bool) → CoreCall
  -- the put of a copy of what is frozen in core `from`
  Copies : (from key number : ℕ) → CoreCall

-- the call of the core's map
abbrev pub made_call : CoreCall → Call
made_call (Looks answers key) = Get key
made_call (Writes answers write) = open_call write
made_call (Freezes key n) = freeze_of key n
made_call (Marks to key n) = mark_of key n
made_call (Closes key had) = close_of key
made_call (Copies from key n) = put_if_absent_of key n

abbrev pub called_key : CoreCall → ℕ
called_key call = key_of_call (made_call call)

-- its entry in the core's log
abbrev pub entry_by : (seat : ℕ) → CoreCall → Reply → Entry
entry_by seat call reply = record { seat = seat; call = made_call call; reply = reply }

-- ---- the events

-- the event of a look for a user's get, by what it shows: where that is the mark, the get goes on
abbrev pub read_event : (thread core key : ℕ) → Seen → Event
read_event t c key (seen.Open n) = event.Read t c (Get key) (reply_at (Get key) (Some n))
read_event t c key (seen.Frozen n) = event.Read t c (Get key) (reply_at (Get key) (Some n))
read_event t c key seen.Closed = event.Look t c key
read_event t c key seen.Absent = event.Read t c (Get key) (reply_at (Get key) None)

-- whether the answer of a write in a core may be the user's
abbrev pub is_answer : Result Written CoreFault → Bool
is_answer (Ok Moved) = false
is_answer (Ok answer) = true
is_answer (Err fault) = false

-- the event of a call that changed nothing
abbrev pub idle_event : (thread core : ℕ) → CoreCall → Reply → Event
idle_event t c (Looks true key) reply = read_event t c key (seen_of reply.before)
idle_event t c (Writes true write) reply =
    if is_answer (answer_to (open_call write) reply.before) then event.Read t c write reply
    else event.Look t c (key_of_call write)
idle_event t c call reply = event.Look t c (called_key call)

-- the event of one that changed something
abbrev pub acting_event : (thread core : ℕ) → CoreCall → Reply → Event
acting_event t c (Writes answers write) reply = event.Write t c write reply
acting_event t c (Freezes key n) reply = event.Freeze t c key n
acting_event t c (Marks to key n) reply = event.Mark t c to key n
acting_event t c (Closes key had) reply = event.Close t c key had
acting_event t c (Copies from key n) reply = event.Copy t from c key n
acting_event t c call reply = event.Look t c (called_key call)

-- The event that a call is, by its reply: a user's write keeps the reply that it had in the core.
abbrev pub event_of : (thread core : ℕ) → CoreCall → Reply → Event
event_of t c call reply =
    if leaves_alone (made_call call) reply.before then idle_event t c call reply
    else acting_event t c call reply

-- ---- when a call may be made

-- its numbers are the user's
abbrev pub AreUsers : CoreCall → Type 0
AreUsers (Writes answers write) = IsOpenWrite (open_call write)
AreUsers (Freezes key n) = n ≤ USER_MAX
AreUsers (Marks to key n) = n ≤ USER_MAX
AreUsers (Copies from key n) = n ≤ USER_MAX
AreUsers call = Unit {0}

-- What the log before a call that acts tells beyond the reply: a copy comes where its key never had a
-- number, as `put_if_new` promises; and a close says whether it had one.
abbrev pub HasFoundPast : CoreCall → List Entry → Type 0
HasFoundPast (Copies from key n) log = HasHad log key → ⊥
HasFoundPast (Closes key true) log = HasHad log key
HasFoundPast (Closes key false) log = HasHad log key → ⊥
HasFoundPast call log = Unit {0}

-- What the author of an event knows of other cores, and of links: what `MayFollow` asks beside what
-- the key is in the event's own core.
abbrev pub KnowsOthers : List Event → Event → Type 0
KnowsOthers h (event.Read t c a r) = (is_reached c (row_of h (key_of_call a)) ≡ true)
    × (r.before ≡ None → link_of h c ≡ None)
KnowsOthers h (event.Write t c a r) = is_reached c (row_of h (key_of_call a)) ≡ true
KnowsOthers h (event.Copy t i c k n) = HasSeenFrozen h k i c n
KnowsOthers h (event.Mark t c j k n) = HasSeenFrozen h k c j n
    × (had_number (state_in j (row_of h k)) ≡ true)
KnowsOthers h _ = Unit {0}

-- The call is made after this history, in this core whose log was this, with this reply.
pub record IsMade (h : List Event) (log : List Entry) (thread core : ℕ) (call : CoreCall)
    (reply : Reply) : Type 0 where
  pub there : has_core core (row_of h (called_key call)) ≡ true
  pub users : AreUsers call
  pub replied : reply ≡ reply_of (made_call call) (map_of_log log)
  pub found : leaves_alone (made_call call) reply.before ≡ false → HasFoundPast call log
  -- a key for which there was no slot gets none: of that the log shows nothing
  pub full : state_in core (row_of h (called_key call)) ≡ Full
      → leaves_alone (made_call call) reply.before ≡ true
  pub knows : KnowsOthers h (event_of thread core call reply)

-- ---- what the functions of this crate promise

-- The seat's call is one entry of its core's log, which is new, and replies as the map does that the
-- entries before it leave.
pub record IsEntered (call : CoreCall) (before after : SeatOf) (reply : Reply) : Type 0 where
  pub later : List Entry
  pub earlier : List Entry
  pub entered : log after ≡ later ++ entry_by before.chain.number call reply ∷ earlier
  pub fresh : IsBeginning (log before) earlier
  pub replied : reply ≡ reply_of (made_call call) (map_of_log earlier)

-- the calls of the protocol that the functions promise are such entries
abbrev pub CallsAreEntries : Type 0
CallsAreEntries =
    (call : CoreCall) (before after : SeatOf) (reply : Reply)
    → HasReplied (made_call call) before after reply → IsEntered call before after reply

-- their calls are those of the protocol, by the names that they have there
pub record AreMadeSo (key : ℕ) : Type 0 where
  pub put : (n : ℕ) → open_call (put_of key n) ≡ put_below_of key n USER_END
  pub add : (n : ℕ) → open_call (add_of key n) ≡ add_below_of key n (USER_END - n)
  pub remove : open_call (remove_of key) ≡ remove_below_of key USER_END
  pub exchange : (old new : Option ℕ) → open_call (exchange_of key old new) ≡ exchange_of key old new
  pub copy : (seat from n : ℕ) → first_entry seat key n
      ≡ entry_by seat (Copies from key n) (reply_at (made_call (Copies from key n)) None)

abbrev pub CallsAreMadeSo : Type 0
CallsAreMadeSo = (key : ℕ) → AreMadeSo key
