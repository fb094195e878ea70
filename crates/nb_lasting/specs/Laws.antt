-- What follows of calls one after another: there is one log of them, over all renewals.
use Rattle.std.specs.Prelude.{◌≡◌, ◌++◌, List, [], ◌∷◌, map}
use Rattle.nb_core.specs.Log.{Entry, IsReplayed, Numbers, map_of_log}
use Rattle.nb_core.specs.declared.calls.Call.{Call}
use Rattle.nb_core.specs.declared.calls.Reply.{Reply}
use Rattle.nb_map.specs.OneSeat.{entry_of_first}
use Rattle.nb_lasting.specs.Lasting.{IsMadeOn}

-- These calls, the newest first, were made one after another on the map `before`, and left `after`.
abbrev pub HaveBeenMade : (before after : Numbers) → List (Call × Reply) → Type 0
HaveBeenMade before after [] = after ≡ before
HaveBeenMade before after (newest ∷ made) =
    (then : Numbers) × HaveBeenMade before then made × IsMadeOn newest.0 then after newest.1

-- the log that goes on from this one by these calls of the first seat
abbrev pub with_calls : List (Call × Reply) → List Entry → List Entry
with_calls made past = map entry_of_first made ++ past

-- Whatever log the map went on from, with the calls that were made since it is one log: it is
-- replayed, and leaves the map.
abbrev pub OneLog : Type 0
OneLog =
    (past : List Entry) (after : Numbers) (made : List (Call × Reply)) → IsReplayed past
    → HaveBeenMade (map_of_log past) after made
    → IsReplayed (with_calls made past) × (map_of_log (with_calls made past) ≡ after)
