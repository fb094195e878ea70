-- A set is a map that has number 0 at each of its keys. Its log is that of the map, each call as
-- one of the set of the map's keys.
use Rattle.std.specs.Prelude.{ℕ, ◌||◌, Bool, if◌then◌else◌, List, map, is_none, is_some}
use Rattle.nb_core.specs.declared.calls.Call as map_call
use Rattle.nb_core.specs.declared.calls.Call.TheVariants as on_map
use Rattle.nb_core.specs.declared.calls.Change.TheVariants as change
use Rattle.nb_core.specs.declared.calls.Want.TheVariants as want
use Rattle.nb_core.specs.declared.calls.Reply.{Reply}
use Rattle.nb_core.specs.Log as map_log
use Rattle.nb_set.specs.Log.{Call, Add, Remove, Contains, Entry}

-- the map's call that makes a call of the set
abbrev pub call_for : Call → map_call.Call
call_for (Add k) = on_map.Write k want.Absent (change.Put 0)
call_for (Remove k) = on_map.Write k want.Any change.Remove
call_for (Contains k) = on_map.Get k

-- the map's pair for a key of the set
abbrev pub pair_for : ℕ → ℕ × ℕ
pair_for k = (k, 0)

-- A write that puts a number is an `add`, except where its condition kept it from an absent key:
-- then it only asked.
abbrev pub put_as : ℕ → Reply → Call × Bool
put_as k reply = if reply.matched || is_some reply.before then (Add k, is_none reply.before)
    else (Contains k, is_some reply.before)

-- A write that removes is a `remove`, except where its condition kept it from a key that was
-- there: then it only asked.
abbrev pub removal_as : ℕ → Reply → Call × Bool
removal_as k reply = if reply.matched || is_none reply.before then (Remove k, is_some reply.before)
    else (Contains k, is_some reply.before)

-- a map's call with its reply, as one of the set of its keys
abbrev pub call_as : map_call.Call × Reply → Call × Bool
call_as (on_map.Get k, reply) = (Contains k, is_some reply.before)
call_as (on_map.Write k want (change.Put n), reply) = put_as k reply
call_as (on_map.Write k want (change.Add n), reply) = put_as k reply
call_as (on_map.Write k want change.Remove, reply) = removal_as k reply

-- a map's entry, as one of the set
abbrev pub entry_as : map_log.Entry → Entry
entry_as entry =
    let made = call_as (entry.call, entry.reply) in
    record { seat = entry.seat; call = made.0; reply = made.1 }

-- a map's log, as that of the set
abbrev pub log_as : List map_log.Entry → List Entry
log_as = map entry_as
