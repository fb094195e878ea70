-- What the steps of one call of the map do.
--
-- A moment is given by the history until then, the newest event first.
use Rattle.std.specs.Prelude.{ℕ, suc, List, ◌∷◌, ◌≡◌, ◌<◌, ◌⊎◌, ◌+◌, ◌≤◌, All}
use Rattle.nb_core.specs.Calls.{Fills}
use Rattle.nb_core.specs.History.{seat_of_event, key_of_call, counted_by, turned_by}
use Rattle.nb_core.specs.Log.{IsBeginning, calls_of, log_of}
use Rattle.nb_core.specs.Plans.{Plan, generations_of}
use Rattle.nb_core.specs.Tables.{IsInstalled, tables_at, HasSlotBelow}
use Rattle.nb_core.specs.declared.calls.Call.{Call}
use Rattle.nb_core.specs.declared.calls.Reply.{Reply}
use Rattle.nb_core.specs.declared.events.Event.TheVariants.{Claim, Install}
use Rattle.nb_core.specs.declared.events.Event.{Event}
use Rattle.nb_table.specs.Chains.{Grown, SeenBy}
use Rattle.nb_table.specs.Views.{HasSeen}

-- From one moment to a later one a seat claimed a slot of table g before it saw a next table: there
-- was none at a moment between them, and from then on the seat made no event but the claim.
pub record IsBeforeNext (p : Plan) (before after : List Event) (g : ℕ) (claim : Event) :
    Type 0 where
  pub seen : List Event
  pub begun : IsBeginning before seen
  pub no_next : IsInstalled (tables_at p seen) (suc g) → ⊥
  pub met : List Event
  pub rested : HasSeen met (seat_of_event claim) seen
  pub claimed : IsBeginning (claim ∷ met) after

-- From one moment to a later one the call may make the event. Copying is free to every call, and
-- the log tells of exchanges and reads. A table is installed, and a slot claimed for a key that has
-- none in the table below, only for the call's own key, and only by a put or an add whose condition
-- holds of an absent key; and the slot only before the seat saw a next table.
abbrev pub MayMake : Plan → (before after : List Event) → Call → Event → Type 0
MayMake p before after call (Claim s g i k) =
    (g < generations_of p)
    × (HasSlotBelow p (tables_at p after) g k
    ⊎ ((k ≡ key_of_call call) × Fills call × IsBeforeNext p before after g (Claim s g i k)))
MayMake p before after call (Install s g k) = (k ≡ key_of_call call) × Fills call
MayMake p before after call _ = Unit {0}

-- From one moment to a later one the seat counted as many slots of each table as its events turned
-- finished.
abbrev pub HasCountedTurned : Plan → (number : ℕ) → (before after : List Event) → Type 0
HasCountedTurned p number before after =
    (g : ℕ) → counted_by after number g + turned_by p before number g ≡ counted_by before number g
    + turned_by p after number g

-- Among what the seat has seen anew, its own events are such as the call may make, and its own
-- calls are these, with their replies. What they turned finished they counted. They took at most so
-- many steps.
pub record HasMade (p : Plan) (call : Call) (before after : SeenBy) (made : List (Call × Reply))
    (most : ℕ) : Type 0 where
  pub own : List Event
  pub count : ℕ
  pub grown : Grown p before after own count
  pub calls : calls_of before.number (log_of own) ≡ made
  pub may : All (MayMake p before.seen after.seen call) own
  pub counted : HasCountedTurned p before.number before.seen after.seen
  pub few : count ≤ most

-- the same, whichever calls the steps made
abbrev pub HasMadeSome : Plan → Call → (before after : SeenBy) → (most : ℕ) → Type 0
HasMadeSome p call before after most =
    (made : List (Call × Reply)) × HasMade p call before after made most
