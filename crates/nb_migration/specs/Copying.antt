-- What the copy of a number to a core behind promises.
use Rattle.std.specs.Prelude.{◌≡◌, ℕ, Bool, true, false, Option, Some, None, Result, Ok, Err}
use Rattle.nb_map.specs.FirstPut.{HasPutIfNew}
use Rattle.nb_map.specs.Maps.{MapOf, SeatOf}
use Rattle.nb_map.specs.declared.faults.Full.{Full}
use Rattle.nb_map.specs.declared.map.first.FirstPut.{FirstPut}
use Rattle.nb_map.specs.declared.map.first.FirstPut.TheVariants.{Found, Put, Removed}
use Rattle.nb_migration.specs.Numbers.{seen_of}
use Rattle.nb_migration.specs.Settling.{HasStepped, mark_of}
use Rattle.nb_migration.specs.declared.copying.Copied.{Copied}
use Rattle.nb_migration.specs.declared.copying.Copied.TheVariants as copied
use Rattle.nb_migration.specs.declared.numbers.Seen.{Seen}
use Rattle.nb_migration.specs.declared.numbers.Seen.TheVariants.{Closed}
use Rattle.nb_migration.specs.declared.writes.CoreFault.{CoreFault}

-- the answer of a copy to a core where the key has had a number and shows this now
abbrev pub copied_at : Seen → Copied
copied_at Closed = copied.Closed
copied_at seen = copied.HadNumber

-- the answer of a copy, by that of the put
abbrev pub copied_by : FirstPut → Copied
copied_by Put = copied.Came
copied_by (Found n) = copied_at (seen_of (Some n))
copied_by Removed = copied.HadNumber

-- the same, where it may be refused
abbrev pub copied_as : Result FirstPut Full → Copied
copied_as (Ok put) = copied_by put
copied_as (Err full) = copied.Full

-- what a copy promises: it puts the number if the key never had one there, with all that such a put
-- promises
abbrev pub HasCopiedNumber :
    MapOf → (key number : ℕ) → (before after : SeatOf) → Copied → Type 0
HasCopiedNumber map key number before after answer =
    (put : Result FirstPut Full) × (answer ≡ copied_as put)
    × HasPutIfNew map key number before after put

-- What going on with a copy promises, where the number is frozen in its source still: the copy. Else
-- it does nothing in the core behind.
abbrev pub HasCopiedStill :
    (frozen : Bool) → MapOf → (key number : ℕ) → (before after : SeatOf) → Option Copied → Type 0
HasCopiedStill true map key number before after answer =
    (copied : Copied) × (answer ≡ Some copied) × HasCopiedNumber map key number before after copied
HasCopiedStill false map key number before after answer = (answer ≡ None) × (after ≡ before)

-- the answer of a copy, after the mark
abbrev pub after_mark : Copied → Result Seen CoreFault → Result Copied CoreFault
after_mark copied (Ok seen) = Ok copied
after_mark copied (Err fault) = Err fault

-- What becomes of the source after a copy: where the key is closed behind it, or without a slot there,
-- nothing. Else the key is marked.
abbrev pub HasMarkedAfter :
    Copied → MapOf → (key number : ℕ) → (before after : SeatOf) → (tries : ℕ)
    → Result Copied CoreFault → Type 0
HasMarkedAfter copied.Closed map key number before after tries answer =
    (answer ≡ Ok copied.Closed) × (after ≡ before)
HasMarkedAfter copied.Full map key number before after tries answer =
    (answer ≡ Ok copied.Full) × (after ≡ before)
HasMarkedAfter there map key number before after tries answer =
    (marked : Result Seen CoreFault) × (answer ≡ after_mark there marked)
    × HasStepped map (mark_of key number) before after tries marked
