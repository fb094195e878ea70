-- The log: calls with their replies, one after another, in the words of
-- `java.util.concurrent.ConcurrentMap`.
use Rattle.std.specs.Prelude.{◌≡◌, ℕ, ◌+◌, ◌==◌, Bool, true, false, if◌then◌else◌, List, [], ◌∷◌, ◌++◌, Option, Some, None, is_some, is_none, nat_lt, unwrap_or}
use Rattle.std.specs.FinMap.{FinMap, empty, get, insert, remove}
use Rattle.std.specs.List.{filter_map}
use Rattle.std.specs.Ordering.{nat_cmp}
use Rattle.nb_core.specs.declared.calls.Want.{Want}
use Rattle.nb_core.specs.declared.calls.Want.TheVariants.{Any, Absent, Present, Equal, Below}
use Rattle.nb_core.specs.declared.calls.Change.{Change}
use Rattle.nb_core.specs.declared.calls.Change.TheVariants.{Put, Remove, Add}
use Rattle.nb_core.specs.declared.calls.Call.{Call}
use Rattle.nb_core.specs.declared.calls.Call.TheVariants.{Get, Write}
use Rattle.nb_core.specs.declared.calls.Reply.{Reply}
use Rattle.nb_core.specs.declared.events.Event.{Event}
use Rattle.nb_core.specs.declared.events.Event.TheVariants.{Won, Read}

-- ---- one call

-- a map from keys to value numbers
abbrev pub Numbers : Type 0
Numbers = FinMap nat_cmp ℕ

-- whether the condition holds of what stands at the key
abbrev pub holds_of : Want → Option ℕ → Bool
holds_of Any before = true
holds_of Absent before = is_none before
holds_of Present before = is_some before
holds_of (Equal n) None = false
holds_of (Equal n) (Some m) = m == n
holds_of (Below n) None = true
holds_of (Below n) (Some m) = nat_lt m n

-- what the change puts in place of what stands at the key
abbrev pub changed : Change → Option ℕ → Option ℕ
changed (Put n) before = Some n
changed Remove before = None
changed (Add n) before = Some (unwrap_or before 0 + n)

-- the map with this at the key
abbrev pub with_at : Numbers → ℕ → Option ℕ → Numbers
with_at m k None = remove m k
with_at m k (Some n) = insert m k n

-- what a call replies where its key has this number, or none; a read has no condition that may fail
abbrev pub reply_at : Call → Option ℕ → Reply
reply_at (Get k) number = record { before = number; matched = true }
reply_at (Write k want change) number = record { before = number; matched = holds_of want number }

-- what a call replies on a map
abbrev pub reply_of : Call → Numbers → Reply
reply_of (Get k) m = reply_at (Get k) (get m k)
reply_of (Write k want change) m = reply_at (Write k want change) (get m k)

-- the map that a call leaves
abbrev pub map_after : Call → Numbers → Numbers
map_after (Get k) m = m
map_after (Write k want change) m =
    if holds_of want (get m k) then with_at m k (changed change (get m k)) else m

-- ---- calls one after another

-- a call that was made: the number of its seat, the call, and its reply
pub record Entry : Type 0 where
  pub seat : ℕ
  pub call : Call
  pub reply : Reply

-- A log has its newest entry first.

-- the list, which has its newest element first, is a beginning of this one
pub record IsBeginning {A : Type 0} (first whole : List A) : Type 0 where
  pub later : List A
  pub is : whole ≡ later ++ first

-- the map that the calls of a log leave of the empty one
abbrev pub map_of_log : List Entry → Numbers
map_of_log [] = empty
map_of_log (entry ∷ log) = map_after entry.call (map_of_log log)

-- each entry replies as the map does that the entries before it leave
abbrev pub IsReplayed : List Entry → Type 0
IsReplayed [] = Unit {0}
IsReplayed (entry ∷ log) = (entry.reply ≡ reply_of entry.call (map_of_log log)) × IsReplayed log

-- the calls of a seat in a log, with their replies, the newest first
abbrev pub calls_of : ℕ → List Entry → List (Call × Reply)
calls_of seat [] = []
calls_of seat (entry ∷ log) =
    if entry.seat == seat then (entry.call, entry.reply) ∷ calls_of seat log else calls_of seat log

-- the map has the key all the while, from the one log to the other that goes on from it (a walk
-- must show such a key)
abbrev pub HeldThrough : (first last : List Entry) → ℕ → Type 0
HeldThrough first last k = (log : List Entry) → IsBeginning first log → IsBeginning log last
    → (number : ℕ) × (get (map_of_log log) k ≡ Some number)

-- ---- the log of a history

-- Two kinds of events are calls: the exchange that a call wins, and the load or the lost exchange
-- that showed that the call changes nothing. No other event is in the log.
abbrev pub entry_of : Event → Option Entry
entry_of (Won s g i a b c r) = Some (record { seat = s; call = c; reply = r })
entry_of (Read s c r) = Some (record { seat = s; call = c; reply = r })
entry_of _ = None

-- the log of a history, which has its newest event first too
abbrev pub log_of : List Event → List Entry
log_of = filter_map entry_of
