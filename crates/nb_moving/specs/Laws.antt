-- The laws of legal histories of moving keys: what holds at every moment, whatever was called, by
-- whom, in which order, and however late.
use Rattle.std.specs.Prelude.{◌≡◌, ℕ, ◌≤◌, ◌==◌, ◌&&◌, ◌||◌, Bool, true, false, List, [], ◌∷◌, ◌++◌, Option, Some, None}
use Rattle.std.specs.FinMap.{get}
use Rattle.std.specs.List.{count_by}
use Rattle.std.specs.Option.{option_map}
use Rattle.nb_core.specs.Log.{IsReplayed, map_of_log}
use Rattle.nb_moving.specs.Moving.{IsLegal, KeyPlace, SealsHold, behind, entry_of, followed, had_number, has_core, is_closed, is_reached, is_sealed, link_of, log_of, number_at_home, number_in_state, row_of, state_in}
use Rattle.nb_moving.specs.declared.events.Event.{Event}
use Rattle.nb_moving.specs.declared.events.Link.{Link}
use Rattle.nb_moving.specs.declared.events.Event.TheVariants.{Freeze, Copy}

-- ---- one map

-- Each user's call was decided at one of its own events, and replied as the plain map does that the
-- calls before it leave. What this map has at a key stands at the key's home.
pub record AreOneMap (h : List Event) : Type 0 where
  pub replayed : IsReplayed (log_of h)
  pub numbers : (key : ℕ) → number_at_home (row_of h key) ≡ get (map_of_log (log_of h)) key

-- All cores together are one map.
abbrev pub CoresAreOneMap : Type 0
CoresAreOneMap = (h : List Event) → IsLegal h → SealsHold h → AreOneMap h

-- Whatever decides no user's call leaves each key's number, however late it comes.
abbrev pub StepsLeaveNumbers : Type 0
StepsLeaveNumbers = (e : Event) (h : List Event) → IsLegal (e ∷ h) → SealsHold (e ∷ h)
    → entry_of e ≡ None → (key : ℕ)
    → number_at_home (row_of (e ∷ h) key) ≡ number_at_home (row_of h key)

-- ---- rows

-- A core comes once in a row.
abbrev pub CoresAreDistinct : Type 0
CoresAreDistinct = (h : List Event) → IsLegal h → (key c : ℕ)
    → has_core c (behind c (row_of h key)) ≡ false

-- the first core of a row
abbrev pub first_core : List KeyPlace → Option ℕ
first_core [] = None
first_core (p ∷ row) = Some p.core

-- Behind a core of a row comes the one to which its link leads the key, and none if it has no link.
abbrev pub RowsAreLinked : Type 0
RowsAreLinked = (h : List Event) → IsLegal h → (key c : ℕ) → has_core c (row_of h key) ≡ true
    → first_core (behind c (row_of h key)) ≡ option_map (λ link. followed link key) (link_of h c)

-- ---- what stays, and what comes once

-- the core is one of the key's row, and closed to it
abbrev pub is_closed_to : List Event → (c key : ℕ) → Bool
is_closed_to h c key = has_core c (row_of h key)
    && (is_sealed c (row_of h key) || is_closed (state_in c (row_of h key)))

-- What is closed to a key stays closed to it.
abbrev pub ClosedStays : Type 0
ClosedStays = (later h : List Event) → IsLegal (later ++ h) → (c key : ℕ)
    → is_closed_to h c key ≡ true → is_closed_to (later ++ h) c key ≡ true

-- Where all cores before one are closed to a key, they are so ever after.
abbrev pub ReachedStays : Type 0
ReachedStays = (later h : List Event) → IsLegal (later ++ h) → (c key : ℕ)
    → is_reached c (row_of h key) ≡ true → is_reached c (row_of (later ++ h) key) ≡ true

-- A link never changes. So where a core is found without one, it had none before.
abbrev pub LinksStay : Type 0
LinksStay = (later h : List Event) → IsLegal (later ++ h) → (c : ℕ) (link : Link)
    → link_of h c ≡ Some link → link_of (later ++ h) c ≡ Some link

-- A core that is closed to a key has no number of it.
abbrev pub ClosedHasNone : Type 0
ClosedHasNone = (h : List Event) → IsLegal h → SealsHold h → (c key : ℕ)
    → is_closed_to h c key ≡ true → number_in_state (state_in c (row_of h key)) ≡ None

-- The cores before a sealed one are closed to each key.
abbrev pub SealedBehindClosed : Type 0
SealedBehindClosed = (h : List Event) → IsLegal h → (key c : ℕ)
    → is_sealed c (row_of h key) ≡ true → is_reached c (row_of h key) ≡ true

-- No copy comes into a sealed core, however late.
abbrev pub NoneIntoSealed : Type 0
NoneIntoSealed = (t i c k n : ℕ) (h : List Event) → IsLegal (Copy t i c k n ∷ h) → SealsHold h
    → is_sealed c (row_of h k) ≡ false

-- the key has, or had, a number in the core
abbrev pub had_in : List Event → (c key : ℕ) → Bool
had_in h c key = had_number (state_in c (row_of h key))

-- Where a key had a number, it had one ever after.
abbrev pub HadStays : Type 0
HadStays = (later h : List Event) → IsLegal (later ++ h) → (c key : ℕ)
    → had_in h c key ≡ true → had_in (later ++ h) c key ≡ true

-- the event froze a number of the key in the core
abbrev pub froze : (c key : ℕ) → Event → Bool
froze c key (Freeze t d k n) = d == c && k == key
froze c key _ = false

-- the event put a copy of the key's number into the core
abbrev pub copied : (c key : ℕ) → Event → Bool
copied c key (Copy t i d k n) = d == c && k == key
copied c key _ = false

-- A key's number is frozen in a core at most once, and copied into one at most once.
abbrev pub MovedOnce : Type 0
MovedOnce = (h : List Event) → IsLegal h → (c key : ℕ)
    → (count_by (froze c key) h ≤ 1) × (count_by (copied c key) h ≤ 1)
