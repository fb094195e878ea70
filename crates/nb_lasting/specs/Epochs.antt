-- One log over renewals, where a map has many seats: the calls of all of them, in whatever order
-- threads made them, while one map after another was there.
use Rattle.std.specs.Prelude.{refl, ◌≡◌, ℕ, List, [], ◌++◌, All}
use Rattle.nb_core.specs.Log.{Entry, IsReplayed, calls_of, map_of_log}
use Rattle.nb_core.specs.Plans.{Plan}
use Rattle.nb_core.specs.declared.calls.Call.{Call}
use Rattle.nb_core.specs.declared.calls.Reply.{Reply}
use Rattle.nb_map.specs.Ending.{EndedOf, EndedWith, log_left, map_left}
use Rattle.nb_map.specs.Handles.{HandleOf, seats_of}
use Rattle.nb_map.specs.Logs.{HasLogged, log}
use Rattle.nb_map.specs.Maps.{SeatOf}
use Rattle.nb_map.specs.Renewing.{HasRenewed}

-- What a map went on from: the log that it began with, which filled it, and the log of all calls
-- that were made before it. Both leave the same map.
pub record EpochOf : Type 0 where
  pub filled : List Entry
  pub past : List Entry
  pub replayed : IsReplayed past
  pub same : map_of_log filled ≡ map_of_log past

-- the epoch of a map that began empty
abbrev pub first_epoch : EpochOf
first_epoch = record { filled = []; past = []; replayed = tt; same = refl }

-- This is the one log that the seat knows: its map's, with the calls of all maps before in place of
-- those that filled it. The epoch and the seat determine it.
pub record Knows (e : EpochOf) (seat : SeatOf) (whole : List Entry) : Type 0 where
  pub later : List Entry
  pub here : log seat ≡ later ++ e.filled
  pub is : whole ≡ later ++ e.past
  pub replayed : IsReplayed whole

-- the seat is of a map with this epoch
abbrev pub IsOfEpoch : EpochOf → SeatOf → Type 0
IsOfEpoch e seat = (whole : List Entry) × Knows e seat whole

-- The one log has gone on. All of it is replayed, and of what is new just these calls are the
-- seat's, the newest first.
pub record HasGoneOnBy (number : ℕ) (before after : List Entry) (made : List (Call × Reply)) :
    Type 0 where
  pub later : List Entry
  pub grown : after ≡ later ++ before
  pub replayed : IsReplayed after
  pub own : calls_of number later ≡ made

-- All seats have met at the map's end. This is the one log of all calls until then: what the map's
-- log is at its end, with the calls of all maps before in place of those that filled it. It is
-- replayed, and leaves what is left of the map. It goes on from the log that each seat knew, by no
-- call of that seat.
pub record HaveMetIn (e : EpochOf) (seats : List SeatOf) (ended : EndedOf)
    (whole : List Entry) : Type 0 where
  pub later : List Entry
  pub left : log_left ended ≡ later ++ e.filled
  pub is : whole ≡ later ++ e.past
  pub replayed : IsReplayed whole
  pub leaves : map_of_log whole ≡ map_left ended
  pub each :
      All (λ seat. (known : List Entry) → Knows e seat known
      → HasGoneOnBy seat.chain.number known whole []) seats

-- all seats of the handle know this log, in this epoch
abbrev pub AllKnow : EpochOf → HandleOf → List Entry → Type 0
AllKnow e handle whole = All (λ seat. Knows e seat whole) (seats_of handle)

-- There is one log over renewals. Each of its parts ties it to what a call of a map or of a handle
-- promises.
pub record OneLogForAll : Type 0 where
  -- it begins with nothing
  pub none : {seat : SeatOf} → log seat ≡ [] → Knows first_epoch seat []
  -- a seat's calls are new in it, with their replies, and no other call of that seat is
  pub called :
      {e : EpochOf} {before after : SeatOf} {whole : List Entry} {made : List (Call × Reply)}
      → Knows e before whole → HasLogged before after made
      → (longer : List Entry) × HasGoneOnBy before.chain.number whole longer made
      × Knows e after longer
  -- where the map is made anew, all seats know it, and the next epoch goes on from it
  pub renewed :
      {e : EpochOf} {p : Plan} {before after : HandleOf}
      → All (IsOfEpoch e) (seats_of before) → (is : HasRenewed p before after)
      → (next : EpochOf) × HaveMetIn e (seats_of before) is.ended next.past
      × AllKnow next after next.past
  -- and so it ends, with the exact map
  pub ended :
      {e : EpochOf} {ended : EndedOf} (handle : HandleOf) → All (IsOfEpoch e) (seats_of handle)
      → EndedWith (seats_of handle) ended
      → (whole : List Entry) × HaveMetIn e (seats_of handle) ended whole
  -- what goes on and on goes on: the calls add up, over renewals too
  pub more :
      {number : ℕ} {first middle last : List Entry} {made made' : List (Call × Reply)}
      → HasGoneOnBy number first middle made → HasGoneOnBy number middle last made'
      → HasGoneOnBy number first last (made' ++ made)
