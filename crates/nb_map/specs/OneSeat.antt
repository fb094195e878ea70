-- A map with one seat: it replies as a plain map does, call by call.
use Rattle.std.specs.FinMap.{get}
use Rattle.std.specs.Prelude.{◌≡◌, ℕ, List, [], ◌++◌, Option, None, map}
use Rattle.nb_core.specs.Log.{Numbers, map_of_log, Entry, map_after, reply_of}
use Rattle.nb_core.specs.Meaning.{IsCrowded}
use Rattle.nb_core.specs.declared.calls.Call.{Call}
use Rattle.nb_core.specs.declared.calls.Reply.{Reply}
use Rattle.nb_map.specs.Logs.{log, HasLogged, HasReplied, HasFound}
use Rattle.nb_map.specs.Maps.{SeatOf, MapOf, IsMine}

-- the map that the log leaves which a seat knows
abbrev pub held : SeatOf → Numbers
held seat = map_of_log (log seat)

-- a call of the first seat with its reply, in a log
abbrev pub entry_of_first : Call × Reply → Entry
entry_of_first made = record { seat = 0; call = made.0; reply = made.1 }

-- The seat is this map's, and its only one.
pub record IsOnly (m : MapOf) (seat : SeatOf) : Type 0 where
  pub seats : m.chain.shape.seats ≡ 1
  pub first : seat.chain.number ≡ 0
  pub mine : IsMine m seat

-- Where a map has one seat, nobody else calls. What is new in the log is just what this seat has
-- called; so each reply is that of the map that the seat knew before the call, and the seat knows
-- the map that the call leaves. Where it has called nothing, its map is as before; and a call that
-- is refused as full is of a key that this map doesn't have.
pub record OneSeat : Type 0 where
  pub logged :
      {m : MapOf} {before after : SeatOf} {made : List (Call × Reply)} → IsOnly m before
      → IsMine m after → HasLogged before after made
      → (log after ≡ map entry_of_first made ++ log before) × IsOnly m after
  pub replied :
      {m : MapOf} {before after : SeatOf} {call : Call} {reply : Reply} → IsOnly m before
      → IsMine m after → HasReplied call before after reply
      → (reply ≡ reply_of call (held before)) × (held after ≡ map_after call (held before))
  pub found :
      {m : MapOf} {before after : SeatOf} {call : Call} {number : Option ℕ} → IsOnly m before
      → IsMine m after → HasFound call before after number
      → (number ≡ (reply_of call (held before)).before)
      × (held after ≡ map_after call (held before))
  pub quiet :
      {m : MapOf} {before after : SeatOf} → IsOnly m before → IsMine m after
      → HasLogged before after [] → held after ≡ held before
  pub full :
      {m : MapOf} {before after : SeatOf} → IsOnly m before → IsMine m after
      → HasLogged before after [] → (k : ℕ) → IsCrowded m.chain.shape after.chain.seen k
      → get (held before) k ≡ None
