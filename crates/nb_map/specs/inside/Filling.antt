-- What a seat has done that fills a new map.
use Rattle.std.specs.Prelude.{◌≡◌, ◌≤◌, ℕ, Bool, true, false, List, ◌∷◌, ◌++◌, map, reverse}
use Rattle.nb_core.specs.declared.calls.Call.{Call}
use Rattle.nb_core.specs.declared.calls.Reply.{Reply}
use Rattle.nb_core.specs.declared.numbers.TheConstants.{VALUE_MAX}
use Rattle.nb_map.specs.Bulk.{put_entry}
use Rattle.nb_map.specs.Crowding.{HasAskedFor}
use Rattle.nb_map.specs.Logs.{HasLogged}
use Rattle.nb_map.specs.Maps.{IsMine, MapOf, SeatOf}
use Rattle.nb_map.specs.Progress.{Tries}
use Rattle.nb_map.specs.Promises.{HasWritten, Refused}
use Rattle.nb_map.specs.declared.faults.PutFault.{PutFault}

-- the puts of entries, the newest first
abbrev pub puts_of : List (ℕ × ℕ) → List Call
puts_of entries = map put_entry (reverse entries)

-- the seat has claimed slots for the keys of these entries alone
abbrev pub HasClaimedFor : MapOf → List (ℕ × ℕ) → SeatOf → Type 0
HasClaimedFor m entries seat = HasAskedFor m.chain.shape (puts_of entries) seat.chain

-- Of all these entries the seat has put the first ones, in their order, each once.
pub record HasPut (m : MapOf) (all first : List (ℕ × ℕ)) (before after : SeatOf) : Type 0 where
  pub made : List (Call × Reply)
  pub puts : map (λ made. made.0) made ≡ puts_of first
  pub logged : HasLogged before after made
  pub claims : HasClaimedFor m all before → HasClaimedFor m all after
  pub own : IsMine m after

-- It has put all of them; or the first ones, and the put of the next one is refused.
abbrev pub HasFilled : MapOf → List (ℕ × ℕ) → (before after : SeatOf) → Bool → Type 0
HasFilled m entries before after true = HasPut m entries entries before after
HasFilled m entries before after false =
    (first rest : List (ℕ × ℕ)) × (next : ℕ × ℕ) × (then : SeatOf) × (fault : PutFault)
    × (entries ≡ first ++ (next ∷ rest)) × (next.1 ≤ VALUE_MAX) × HasPut m entries first before then
    × HasWritten m (put_entry next) then after (Tries 1) (Refused fault)
