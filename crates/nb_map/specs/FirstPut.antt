-- Puts of a number at a key that never had one, in a map of one table.
use Rattle.std.specs.Prelude.{◌≡◌, ◌⊎◌, ℕ, List, ◌∷◌, Option, Some, None, Result, Ok, Err}
use Rattle.std.specs.FinMap.{get}
use Rattle.nb_core.specs.Log.{Entry, IsBeginning, map_of_log, reply_at}
use Rattle.nb_core.specs.declared.calls.Call.TheVariants.{Get}
use Rattle.nb_map.specs.Logs.{HasReplied, log}
use Rattle.nb_map.specs.Maps.{HasWorked, IsMine, MapOf, SeatOf}
use Rattle.nb_map.specs.NamedCalls.{put_if_absent_of}
use Rattle.nb_map.specs.Progress.{Unlimited}
use Rattle.nb_map.specs.Refusals.{HasRefused}
use Rattle.nb_map.specs.Steps.{first_put_steps}
use Rattle.nb_map.specs.declared.faults.Full.{Full}
use Rattle.nb_map.specs.declared.faults.PutFault.TheVariants as fault
use Rattle.nb_map.specs.declared.map.first.FirstPut.{FirstPut}
use Rattle.nb_map.specs.declared.map.first.FirstPut.TheVariants as first

-- at some moment of the log the map had a number at the key
pub record HasHad (whole : List Entry) (key : ℕ) : Type 0 where
  pub earlier : List Entry
  pub begun : IsBeginning earlier whole
  pub number : ℕ
  pub had : get (map_of_log earlier) key ≡ Some number

-- the entry of a seat's put at a key that the map didn't have
abbrev pub first_entry : (seat key number : ℕ) → Entry
first_entry seat key number = record {
  seat = seat;
  call = put_if_absent_of key number;
  reply = reply_at (put_if_absent_of key number) None;
}

-- The seat has put the number. That is the last call of the log, and before it the map never had a
-- number at the key.
pub record HasPutFirst (key number : ℕ) (before after : SeatOf) : Type 0 where
  pub replied : HasReplied (put_if_absent_of key number) before after
      (reply_at (put_if_absent_of key number) None)
  pub earlier : List Entry
  pub last : log after ≡ first_entry before.chain.number key number ∷ earlier
  pub never : HasHad earlier key → ⊥

-- The seat's one call found this number at the key, or none: a read; or the put, if it found a number
-- and left it there.
abbrev pub HasLookedAt : (key number : ℕ) → (before after : SeatOf) → Option ℕ → Type 0
HasLookedAt key number before after None =
    HasReplied (Get key) before after (reply_at (Get key) None)
HasLookedAt key number before after (Some n) =
    HasReplied (Get key) before after (reply_at (Get key) (Some n))
    ⊎ HasReplied (put_if_absent_of key number) before after
    (reply_at (put_if_absent_of key number) (Some n))

-- It has put the first number at the key; or the map had one at it, and this is what it has now; or
-- the put is refused as full.
abbrev pub HasAnsweredFirst :
    MapOf → (key number : ℕ) → (before after : SeatOf) → Result FirstPut Full → Type 0
HasAnsweredFirst map key number before after (Ok first.Put) = HasPutFirst key number before after
HasAnsweredFirst map key number before after (Ok (first.Found n)) =
    HasHad (log after) key × HasLookedAt key number before after (Some n)
HasAnsweredFirst map key number before after (Ok first.Removed) =
    HasHad (log after) key × HasLookedAt key number before after None
HasAnsweredFirst map key number before after (Err full) =
    HasRefused map (put_if_absent_of key number) before after Unlimited fault.Full

-- what a put of a number at a key promises that never had one
pub record HasPutIfNew (map : MapOf) (key number : ℕ) (before after : SeatOf)
    (result : Result FirstPut Full) : Type 0 where
  -- its one call is in the log, or it is refused for a just reason
  pub answered : HasAnsweredFirst map key number before after result
  -- it is wait-free: its steps have a bound, whatever others do
  pub worked : HasWorked map (put_if_absent_of key number) before after
      (first_put_steps map.chain.shape)
  pub own : IsMine map after
