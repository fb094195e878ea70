-- Who can fill a map: only calls on as many other keys as the last table has slots.
use Rattle.std.specs.Prelude.{Bool, not, None, ◌==◌, ℕ, List, filter, map, ◌≡◌, ◌⊎◌, true, [], ◌∷◌, ◌<◌, All, ◌-◌, ◌≤◌}
use Rattle.std.specs.Set.{distinct_count}
use Rattle.nb_core.specs.Calls.{leaves_alone}
use Rattle.nb_core.specs.History.{key_of_call, IsLegal}
use Rattle.nb_core.specs.Log.{IsBeginning}
use Rattle.nb_core.specs.Meaning.{IsCrowded}
use Rattle.nb_core.specs.Plans.{Plan, generations_of, IsPlan, size_of}
use Rattle.nb_core.specs.Tables.{HasSlotBelow, Tables, tables_at}
use Rattle.nb_core.specs.declared.calls.Call.{Call}
use Rattle.nb_core.specs.declared.events.Event.TheVariants.{Claim}
use Rattle.nb_core.specs.declared.events.Event.{Event}
use Rattle.nb_table.specs.Chains.{SeenBy, own_events, Grown}
use Rattle.nb_table.specs.Views.{HasSeen}
use Rattle.nb_map.specs.Calling.{HasMadeSome}

-- whether the call puts a number at a key that is absent
abbrev pub fills : Call → Bool
fills call = not (leaves_alone call None)

-- how many keys other than this one the calls fill
abbrev pub others_filled : ℕ → List Call → ℕ
others_filled k calls = distinct_count (λ i j. i == j)
    (filter (λ j. not (j == k)) (map key_of_call (filter fills calls)))

-- one of these calls fills the key
abbrev pub IsFilled : List Call → ℕ → Type 0
IsFilled [] k = ⊥
IsFilled (call ∷ calls) k = ((fills call ≡ true) × (key_of_call call ≡ k)) ⊎ IsFilled calls k

-- a claim of a key that the calls fill, or that has a slot in the table below
abbrev pub IsClaimOf : Plan → Tables → List Call → Event → Type 0
IsClaimOf p t calls (Claim s g i k) =
    (g < generations_of p) × (HasSlotBelow p t g k ⊎ IsFilled calls k)
IsClaimOf p t calls _ = Unit {0}

-- Whatever the seat was asked to do, of the keys that it claimed these calls fill each that is new
-- to the tables.
pub record HasAskedFor (p : Plan) (calls : List Call) (seat : SeenBy) : Type 0 where
  pub own : All (IsClaimOf p (tables_at p seat.seen) calls) (own_events seat.number seat.seen)

-- so it is of the history's seat of this number
pub record HasAskedIn (p : Plan) (calls : List Call) (history : List Event) (n : ℕ) : Type 0 where
  pub seat : SeenBy
  pub number : seat.number ≡ n
  pub asked : HasAskedFor p calls seat
  pub seen : HasSeen history n seat.seen

-- What seats are asked adds up: nothing, a call more, and steps that are no event.
pub record AsksAddUp : Type 0 where
  pub none : {p : Plan} {calls : List Call} {seat : SeenBy} → seat.seen ≡ []
      → HasAskedFor p calls seat
  pub more :
      {p : Plan} {calls calls' : List Call} {call : Call} {before after : SeenBy} {most : ℕ}
      → IsPlan p
      → ((k : ℕ) → IsFilled calls k → IsFilled calls' k)
      → (fills call ≡ true → IsFilled calls' (key_of_call call)) → HasAskedFor p calls before
      → HasMadeSome p call before after most → HasAskedFor p calls' after
  pub rested :
      {p : Plan} {calls : List Call} {before after : SeenBy} {count : ℕ} → IsPlan p
      → HasAskedFor p calls before → Grown p before after [] count
      → HasAskedFor p calls after

-- Where all seats were asked for these calls alone, a key finds all slots of the last table taken
-- only where the calls fill as many other keys.
abbrev pub CrowdedByCalls : Type 0
CrowdedByCalls =
    (p : Plan) → IsPlan p → (calls : List Call) (history : List Event) → IsLegal p history
    → ((number : ℕ) → number < p.seats → HasAskedIn p calls history number) → (h : List Event)
    → IsBeginning h history → (k : ℕ)
    → IsCrowded p h k → size_of p (generations_of p - 1) ≤ others_filled k calls
