-- What the moves of many keys promise: stretches of slots, and lists of what was frozen there.
use Rattle.std.specs.Prelude.{◌≡◌, ◌⊎◌, ℕ, ◌+◌, ◌-◌, ◌≤◌, min, List, [], ◌∷◌, ◌++◌, length, take, slice_get, Option, Some, None, Result, Ok, Err}
use Rattle.nb_core.specs.Plans.{size_of}
use Rattle.nb_map.specs.Maps.{MapOf, SeatOf}
use Rattle.nb_map.specs.Promises.{HasGot}
use Rattle.nb_map.specs.Slots.{HasFoundKey, HasMadeLooks}
use Rattle.nb_migration.specs.Copying.{HasCopiedNumber}
use Rattle.nb_migration.specs.Numbers.{seen_of}
use Rattle.nb_migration.specs.Settling.{HasStepped, freeze_of, mark_of}
use Rattle.nb_migration.specs.declared.copying.Copied.{Copied}
use Rattle.nb_migration.specs.declared.copying.Copied.TheVariants as copied
use Rattle.nb_migration.specs.declared.numbers.Seen.{Seen}
use Rattle.nb_migration.specs.declared.numbers.Seen.TheVariants.{Absent, Closed, Frozen, Open}
use Rattle.nb_migration.specs.declared.pieces.AtSlot.{AtSlot}
use Rattle.nb_migration.specs.declared.pieces.AtSlot.TheVariants as at_slot
use Rattle.nb_migration.specs.declared.pieces.FrozenEntry.{FrozenEntry}
use Rattle.nb_migration.specs.declared.pieces.MovedStretch.{MovedStretch}
use Rattle.nb_migration.specs.declared.pieces.Stretch.{Stretch}
use Rattle.nb_migration.specs.declared.writes.CoreFault.{CoreFault}

-- ---- freezing

-- What becomes of a key that was read and shows this: a number of the user is frozen, by a step with
-- so many tries. All else stays.
abbrev pub HasFrozenShown :
    Seen → MapOf → (key : ℕ) → (before after : SeatOf) → (tries : ℕ) → Result Seen CoreFault → Type 0
HasFrozenShown (Open n) map key before after tries result =
    HasStepped map (freeze_of key n) before after tries result
HasFrozenShown shown map key before after tries result = (result ≡ Ok shown) × (after ≡ before)

-- what the freezing of a key promises: a get, and then that
abbrev pub HasFrozenKey :
    MapOf → (key : ℕ) → (before after : SeatOf) → (tries : ℕ) → Result Seen CoreFault → Type 0
HasFrozenKey map key before after tries result =
    (found : Option ℕ) × (then : SeatOf) × HasGot map key before then found
    × HasFrozenShown (seen_of found) map key then after tries result

-- what is told of a slot by what its key has then: a frozen number is listed; where one of the user's
-- is there, another write came first
abbrev pub shown_of_key : (key : ℕ) → Seen → AtSlot
shown_of_key key (Open n) = at_slot.Changed
shown_of_key key (Frozen n) = at_slot.Listed key n
shown_of_key key Closed = at_slot.Passed
shown_of_key key Absent = at_slot.Passed

-- the same, where the step may be refused
abbrev pub told_of_key : (key : ℕ) → Result Seen CoreFault → AtSlot
told_of_key key (Ok shown) = shown_of_key key shown
told_of_key key (Err fault) = at_slot.Changed

-- what the freezing of what a slot holds promises: a look at the slot, and where that has found a key,
-- the freezing of this key
abbrev pub HasFrozenFound :
    MapOf → (slot : ℕ) → (found : Option ℕ) → (before after : SeatOf) → (tries : ℕ) → AtSlot
    → Type 0
HasFrozenFound map slot None before after tries told = (told ≡ at_slot.Passed) × (after ≡ before)
HasFrozenFound map slot (Some key) before after tries told =
    (result : Result Seen CoreFault) × (told ≡ told_of_key key result)
    × HasFrozenKey map key before after tries result

abbrev pub HasFrozenAt :
    MapOf → (slot : ℕ) → (before after : SeatOf) → (tries : ℕ) → AtSlot → Type 0
HasFrozenAt map slot before after tries told =
    (found : Option ℕ) × (then : SeatOf) × HasFoundKey map slot before then found
    × HasFrozenFound map slot found then after tries told

-- The seat has gone over so many slots from the first one on, one after another, and has listed these
-- entries.
pub data HasFrozenSlots (map : MapOf) (first tries : ℕ) (before : SeatOf) :
    (passed : ℕ) → List FrozenEntry → SeatOf → Type 0 where
  Begun : HasFrozenSlots map first tries before 0 [] before
  Passed :
      {passed : ℕ} {entries : List FrozenEntry} {then after : SeatOf}
      → HasFrozenSlots map first tries before passed entries then
      → HasFrozenAt map (first + passed) then after tries at_slot.Passed
      → HasFrozenSlots map first tries before (passed + 1) entries after
  Listed :
      {passed : ℕ} {entries : List FrozenEntry} {then after : SeatOf}
      → HasFrozenSlots map first tries before passed entries then → (key number : ℕ)
      → HasFrozenAt map (first + passed) then after tries (at_slot.Listed key number)
      → HasFrozenSlots map first tries before (passed + 1)
      (entries ++ (record { key = key; number = number; slot = first + passed } ∷ [])) after

-- what the freezing of a stretch promises, of as many slots as the list has room for, but none behind
-- the table's last one
pub record HasFrozenStretch (map : MapOf) (first tries : ℕ) (before after : SeatOf)
    (old new : List FrozenEntry) (stretch : Stretch) : Type 0 where
  -- so many slots are done, and what is frozen there is listed, in their order
  pub few : (stretch.listed ≤ stretch.passed) × (stretch.passed ≤ length old)
  pub room : length new ≡ length old
  pub then : SeatOf
  pub frozen :
      HasFrozenSlots map first tries before stretch.passed (take stretch.listed new) then
  -- these are all; or at the next one another write came first
  pub ended :
      ((stretch.passed ≡ min (length old) (size_of map.chain.shape 0 - first)) × (after ≡ then))
      ⊎ HasFrozenAt map (first + stretch.passed) then after tries at_slot.Changed

-- ---- copies

-- The seat has copied these entries in their order, each with all that a copy promises. Beside that it
-- has made so many looks.
pub data HasCopiedEntries (map : MapOf) (before : SeatOf) :
    List FrozenEntry → List Copied → (looks : ℕ) → SeatOf → Type 0 where
  Start : HasCopiedEntries map before [] [] 0 before
  Looked :
      {entries : List FrozenEntry} {answers : List Copied} {looks : ℕ} {then after : SeatOf}
      → HasCopiedEntries map before entries answers looks then → HasMadeLooks map then after 1
      → HasCopiedEntries map before entries answers (looks + 1) after
  Next :
      {entries : List FrozenEntry} {answers : List Copied} {looks : ℕ} {then after : SeatOf}
      → HasCopiedEntries map before entries answers looks then
      → (entry : FrozenEntry) (answer : Copied)
      → HasCopiedNumber map entry.key entry.number then after answer
      → HasCopiedEntries map before (entries ++ (entry ∷ [])) (answers ++ (answer ∷ [])) looks after

-- what the copy of a list promises: each answer is its entry's, and the looks are no more than the
-- entries
pub record HasCopiedAll (map : MapOf) (entries : List FrozenEntry) (before after : SeatOf)
    (answers : List Copied) : Type 0 where
  pub looks : ℕ
  pub copied : HasCopiedEntries map before entries answers looks after
  pub few : looks ≤ length entries

-- ---- marks

-- a mark is done, or refused
abbrev pub done_or_fault : Result Seen CoreFault → Result (Unit {0}) CoreFault
done_or_fault (Ok seen) = Ok tt
done_or_fault (Err fault) = Err fault

-- What becomes of an entry in the core that it leaves, by the answer of its copy: where the key is
-- closed behind, or without a slot there, nothing. Else the key is marked, maybe after one look.
abbrev pub HasMarkedEntry :
    Copied → MapOf → FrozenEntry → (before after : SeatOf) → (tries : ℕ)
    → Result (Unit {0}) CoreFault → Type 0
HasMarkedEntry copied.Closed map entry before after tries result =
    (result ≡ Ok tt) × (after ≡ before)
HasMarkedEntry copied.Full map entry before after tries result = (result ≡ Ok tt) × (after ≡ before)
HasMarkedEntry there map entry before after tries result =
    (then : SeatOf) × ((then ≡ before) ⊎ HasMadeLooks map before then 1)
    × (marked : Result Seen CoreFault) × (result ≡ done_or_fault marked)
    × HasStepped map (mark_of entry.key entry.number) then after tries marked

-- The seat has gone over these entries with the answers of their copies, one after another, and no
-- mark was refused.
pub data HasMarkedEntries (map : MapOf) (tries : ℕ) (before : SeatOf) :
    List FrozenEntry → List Copied → SeatOf → Type 0 where
  Unmarked : HasMarkedEntries map tries before [] [] before
  Marked :
      {entries : List FrozenEntry} {answers : List Copied} {then after : SeatOf}
      → HasMarkedEntries map tries before entries answers then
      → (entry : FrozenEntry) (answer : Copied)
      → HasMarkedEntry answer map entry then after tries (Ok tt)
      → HasMarkedEntries map tries before (entries ++ (entry ∷ [])) (answers ++ (answer ∷ [])) after

-- what the marks of a list promise, by the answers of its copies
pub record HasMarkedAll (map : MapOf) (entries : List FrozenEntry) (answers : List Copied)
    (tries : ℕ) (before after : SeatOf) (done : ℕ) : Type 0 where
  -- so many entries are done, from the first one on
  pub then : SeatOf
  pub marked : HasMarkedEntries map tries before (take done entries) (take done answers) then
  -- these are all; or the mark of the next one is refused
  pub ended :
      ((done ≡ length entries) × (after ≡ then))
      ⊎ ((entry : FrozenEntry) × (answer : Copied) × (fault : CoreFault)
      × (slice_get entries done ≡ Some entry) × (slice_get answers done ≡ Some answer)
      × HasMarkedEntry answer map entry then after tries (Err fault))

-- ---- all of it

-- What the move of a stretch promises: its numbers are frozen, what is listed is copied, and then
-- marked.
pub record HasMovedStretch (source target : MapOf) (first tries : ℕ) (before after : SeatOf)
    (before' after' : SeatOf) (old new : List FrozenEntry) (answers : List Copied)
    (moved : MovedStretch) : Type 0 where
  pub then : SeatOf
  pub frozen : HasFrozenStretch source first tries before then old new moved.stretch
  pub copied :
      HasCopiedAll target (take moved.stretch.listed new) before' after'
      (take moved.stretch.listed answers)
  pub marked :
      HasMarkedAll source (take moved.stretch.listed new) (take moved.stretch.listed answers) tries
      then after moved.marked
