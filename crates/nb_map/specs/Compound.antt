-- Calls that put together the number that they are given and the one that is at the key.
use Rattle.std.specs.Prelude.{◌≡◌, ℕ, max, min, Option, Some, None, Result, Ok, Err, unwrap_or}
use Rattle.nb_map.specs.Maps.{MapOf, SeatOf}
use Rattle.nb_map.specs.NamedCalls.{put_if_absent_of}
use Rattle.nb_map.specs.Progress.{Unlimited}
use Rattle.nb_map.specs.Promises.{HasWritten, Found, Refused}
use Rattle.nb_map.specs.Updating.{IsUpdate}
use Rattle.nb_map.specs.declared.faults.Full.{Full}
use Rattle.nb_map.specs.declared.faults.PutFault.TheVariants as fault
use Rattle.nb_map.specs.declared.faults.PutFault.{PutFault}

-- ---- the number that is there, or the one that is put

-- What `get_or_insert` promises, which answers what the key has now: it is one put-if-absent, and
-- answers what this found, or else the number that it put. Or the put-if-absent is refused.
abbrev pub HasGotOrPut :
    MapOf → (key number : ℕ) → (before after : SeatOf) → Result ℕ Full → Type 0
HasGotOrPut m key number before after (Ok now) =
    (found : Option ℕ) × (unwrap_or found number ≡ now)
    × HasWritten m (put_if_absent_of key number) before after Unlimited (Found found)
HasGotOrPut m key number before after (Err full) =
    HasWritten m (put_if_absent_of key number) before after Unlimited (Refused fault.Full)

-- ---- the greater and the less of two numbers

-- the greater of what is at a key and this number: this number, where nothing is there
abbrev pub greater_of : (number : ℕ) → Option ℕ → Option ℕ
greater_of number None = Some number
greater_of number (Some was) = Some (max was number)

-- the less of the two
abbrev pub less_of : (number : ℕ) → Option ℕ → Option ℕ
less_of number None = Some number
less_of number (Some was) = Some (min was number)

-- the steps of a function that computes this, and keeps no state
abbrev pub Computes : (Option ℕ → Option ℕ) → Unit {0} → (was new : Option ℕ) → Unit {0} → Type 0
Computes new_of f was new g = new ≡ new_of was

-- an update by this function
abbrev pub IsUpdateBy :
    MapOf → (Option ℕ → Option ℕ) → (key : ℕ) → (before after : SeatOf) → (tries : ℕ)
    → Result (Option ℕ) PutFault → Type 0
IsUpdateBy m new_of key before after tries result =
    IsUpdate m (Computes new_of) tt key before after tries result
