-- All entries of a map at rest: what all its seats know once the entries are listed.
use Rattle.std.specs.List.{AllZip, IsDistinct}
use Rattle.std.specs.Prelude.{◌≡◌, ◌==◌, ◌++◌, ◌∷◌, ℕ, List, Option, All, map, reverse}
use Rattle.nb_core.specs.Log.{Entry, IsReplayed, Numbers, map_of_log}
use Rattle.nb_core.specs.declared.calls.Call.TheVariants.{Get}
use Rattle.nb_core.specs.declared.calls.Call.{Call}
use Rattle.nb_core.specs.declared.calls.Reply.{Reply}
use Rattle.nb_map.specs.Bulk.{read_as, whole_walk_steps}
use Rattle.nb_map.specs.Ending.{EndedOf, EndedWith, map_left}
use Rattle.nb_map.specs.Logs.{HasLogged, log}
use Rattle.nb_map.specs.Maps.{HasWorked, IsMine, MapOf, SeatOf}
use Rattle.nb_map.specs.Opening.{map_of_entries}
use Rattle.nb_map.specs.Settling.{HaveSettled}
use Rattle.nb_map.specs.Walks.{HasShownAll}

-- ---- reads alone

-- the call is a read, with its reply
abbrev pub IsRead : Call × Reply → Type 0
IsRead made = (k : ℕ) × (number : Option ℕ) × (made ≡ read_as k number)

-- The seat has made no calls except reads, with at most so many steps.
pub record HasOnlyRead (m : MapOf) (before after : SeatOf) (most : ℕ) : Type 0 where
  pub made : List (Call × Reply)
  pub reads : All IsRead made
  pub logged : HasLogged before after made
  -- its steps are such as a read may make, of any key, as those of a walk are: it installs no table,
  -- and claims a slot only for a key that has one in the table below
  pub worked : (key : ℕ) → HasWorked m (Get key) before after most
  -- it made no step on the counter
  pub count : after.count ≡ before.count
  pub own : IsMine m after

-- each of these seats has made at most the reads of a walk
abbrev pub HaveOnlyRead : MapOf → (before after : List SeatOf) → Type 0
HaveOnlyRead m before after =
    AllZip (λ old new. HasOnlyRead m old new (whole_walk_steps m.chain.shape)) before after

-- ---- all entries

-- These are the entries of the map: each of its keys once, with its number.
pub record AreEntriesOf (content : Numbers) (entries : List (ℕ × ℕ)) : Type 0 where
  pub once : IsDistinct (λ a b. a == b) (map (λ entry. entry.0) entries)
  pub are : map_of_entries entries ≡ content

-- All entries of the map are listed. There was one log of all calls, as if the map had been
-- finished then, and the entries are those of the map that it leaves. Now each seat's log is one and
-- the same, is replayed, and leaves that map.
pub record HaveListed (before after : List SeatOf) (entries : List (ℕ × ℕ)) : Type 0 where
  pub ended : EndedOf
  pub left : EndedWith before ended
  pub all : AreEntriesOf (map_left ended) entries
  pub whole : List Entry
  pub replayed : IsReplayed whole
  pub logs : All (λ seat. log seat ≡ whole) after
  pub leaves : map_of_log whole ≡ map_left ended

-- ---- why they are all

-- A whole walk of the seat has shown these entries, in this order, and the seat made reads alone.
pub record HasListed (before after : SeatOf) (entries : List (ℕ × ℕ)) : Type 0 where
  pub all : HasShownAll before after (reverse entries)
  pub reads : All IsRead all.made

-- Where all seats of a map settle, one of them walks, and all settle again, the walk has shown all
-- entries of the map: nobody has written meanwhile.
abbrev pub EntriesAtRest : Type 0
EntriesAtRest =
    (m : MapOf) (before front back after : List SeatOf) (walker walker' : SeatOf) (size size' : ℕ)
    (entries : List (ℕ × ℕ)) → HaveSettled m before (front ++ walker ∷ back) size
    → HasListed walker walker' entries
    → HaveSettled m (front ++ walker' ∷ back) after size' → HaveListed before after entries
