-- A put of a number at a key that never had one, on the tables.
use Rattle.std.specs.Prelude.{◌≡◌, ℕ, List, [], ◌∷◌, Option, Some, None}
use Rattle.nb_core.specs.Log.{Entry, log_of, reply_at}
use Rattle.nb_core.specs.Plans.{Plan}
use Rattle.nb_core.specs.declared.calls.Call.{Call}
use Rattle.nb_core.specs.declared.calls.Reply.{Reply}
use Rattle.nb_table.specs.Chains.{SeenBy}
use Rattle.nb_map.specs.FirstPut.{HasHad, first_entry}
use Rattle.nb_map.specs.NamedCalls.{put_if_absent_of}
use Rattle.nb_map.specs.Progress.{Unlimited}
use Rattle.nb_map.specs.Refusals.{IsJust}
use Rattle.nb_map.specs.declared.faults.PutFault.TheVariants as fault
use Rattle.nb_map.specs.declared.map.first.FirstPut.{FirstPut}
use Rattle.nb_map.specs.declared.map.first.FirstPut.TheVariants as put
use Rattle.nb_map.specs.declared.steps.first.First.{First}
use Rattle.nb_map.specs.declared.steps.first.First.TheVariants as first

-- its call, where it was made
abbrev pub first_made : (key number : ℕ) → First → List (Call × Reply)
first_made key number first.Put =
    (put_if_absent_of key number, reply_at (put_if_absent_of key number) None) ∷ []
first_made key number (first.Found n) =
    (put_if_absent_of key number, reply_at (put_if_absent_of key number) (Some n)) ∷ []
first_made key number first.Had = []
first_made key number first.Full = []

-- what it comes to that has lost its exchange, by what was found there
abbrev pub first_found : Option (Option ℕ) → First
first_found (Some (Some n)) = first.Found n
first_found (Some None) = first.Had
first_found None = first.Had

-- It was the last call, and before it the map never had a number at the key; or the map had one; or
-- it is refused as full.
abbrev pub IsFirst : Plan → (key number : ℕ) → (before after : SeenBy) → First → Type 0
IsFirst p key number before after first.Put =
    (earlier : List Entry) × (log_of after.seen ≡ first_entry before.number key number ∷ earlier)
    × (HasHad earlier key → ⊥)
IsFirst p key number before after (first.Found n) = HasHad (log_of after.seen) key
IsFirst p key number before after first.Had = HasHad (log_of after.seen) key
IsFirst p key number before after first.Full =
    IsJust p (put_if_absent_of key number) before after Unlimited fault.Full

-- what a key has now that has had a number
abbrev pub number_now : Option ℕ → FirstPut
number_now (Some n) = put.Found n
number_now None = put.Removed
