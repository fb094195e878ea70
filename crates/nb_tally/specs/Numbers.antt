-- The counts of numbers.
use Rattle.std.specs.Prelude.{◌≡◌, ℕ, List, map, reverse}
use Rattle.nb_lines.specs.Keys.{number_at}
use Rattle.nb_lines.specs.declared.faults.Stop.TheVariants as stop
use Rattle.nb_lines.specs.declared.faults.Stop.{Stop}
use Rattle.nb_map.specs.Handles.{HandleOf, KeepsRest}
use Rattle.nb_map.specs.Maps.{MapOf, SeatOf}
use Rattle.nb_map.specs.NamedCalls.{add_of}
use Rattle.nb_map.specs.Progress.{Unlimited}
use Rattle.nb_map.specs.Promises.{HasBegunWalk, HasWritten, Refused}
use Rattle.nb_map.specs.Refusals.{as_put_fault}
use Rattle.nb_map.specs.Walks.{HasShownAll, WalkOf}
use Rattle.nb_map.specs.declared.faults.AddFault.TheVariants as refusal
use Rattle.nb_map.specs.declared.faults.AddFault.{AddFault}
use Rattle.nb_tally.specs.declared.counting.Count.{Count}

-- what a counter says where the map refuses to add
abbrev pub stop_of : AddFault → Stop
stop_of refusal.Full = stop.Full
stop_of refusal.ValueRange = stop.TooOften

-- the map has refused to add 1 at the key, and that is what is told
abbrev pub HasNotCounted : MapOf → (key : ℕ) → (before after : SeatOf) → Stop → Type 0
HasNotCounted m key before after told =
    (refused : AddFault) × (told ≡ stop_of refused)
    × HasWritten m (add_of key 1) before after Unlimited (Refused (as_put_fault refused))

-- what a key and its value tell: a number, and how often it came
abbrev pub count_at : ℕ × ℕ → Count
count_at pair = record { number = number_at pair.0; times = pair.1 }

-- the handle has made a whole walk over its map, and the counts are what that has shown
pub record HasCountedAll (before after : HandleOf) (counts : List Count) : Type 0 where
  pub begun : SeatOf
  pub walk : WalkOf
  pub begins : HasBegunWalk before.map before.seat begun walk
  pub shown : List (ℕ × ℕ)
  pub all : HasShownAll begun after.seat shown
  pub rest : KeepsRest before after
  pub are : counts ≡ map count_at (reverse shown)
