-- What the export promises by which many keys leave a core.
use Rattle.std.specs.Prelude.{◌≡◌, ◌==◌, ℕ, ℤ, max, min, if◌then◌else◌, Bool, true, false, List, [], ◌∷◌, length, take, Option}
use Rattle.nb_map.specs.Handles.{HandleOf}
use Rattle.nb_map.specs.Maps.{SeatOf}
use Rattle.nb_migration.specs.Pieces.{HasCopiedAll, HasFrozenStretch, HasMarkedAll}
use Rattle.nb_migration.specs.declared.copying.Copied.{Copied}
use Rattle.nb_migration.specs.declared.copying.Copied.TheVariants as copied
use Rattle.nb_migration.specs.declared.pieces.FrozenEntry.{FrozenEntry}
use Rattle.nb_migration.specs.declared.pieces.MovedStretch.{MovedStretch}
use Rattle.nb_ffi.specs.Entries.{written_over}
use Rattle.nb_ffi.specs.Handles.{StaysOpen}
use Rattle.nb_ffi.specs.Promises.{HasCalled}
use Rattle.nb_ffi.specs.declared.codes.TheConstants.{E_CONTENDED, E_TABLES, OK}
use Rattle.nb_ffi.specs.declared.ended_map.MapEntry.{MapEntry}
use Rattle.nb_ffi.specs.declared.stretch.CoreStretch.{CoreStretch}
use Rattle.nb_ffi.specs.declared.stretch.TheConstants.{CORE_STRETCH}

-- a copy that was answered so goes on behind the core
abbrev pub goes_on : Copied → Bool
goes_on copied.Closed = true
goes_on copied.Full = true
goes_on answer = false

-- the entries whose copies go on, by their answers
abbrev pub going_on : List FrozenEntry → List Copied → List (ℕ × ℕ)
going_on (entry ∷ entries) (answer ∷ answers) =
    if goes_on answer then (entry.key, entry.number) ∷ going_on entries answers
    else going_on entries answers
going_on _ _ = []

-- what is told of a move: the entries whose copies go on are written, and whether a mark was refused
pub record IsStretchTold (moved : MovedStretch) (entries : List FrozenEntry) (answers : List Copied)
    (code : ℤ) (room room' : List MapEntry) (told : CoreStretch) : Type 0 where
  pub left :
      room' ≡ written_over
      (going_on (take moved.stretch.listed entries) (take moved.stretch.listed answers)) room
  pub count :
      told.left ≡ length
      (going_on (take moved.stretch.listed entries) (take moved.stretch.listed answers))
  pub passed : told.passed ≡ moved.stretch.passed
  pub marks : code ≡ (if moved.marked == moved.stretch.listed then OK else E_CONTENDED)

-- what happens in the core that the keys leave: its numbers are frozen, and later marked
abbrev pub HasLeftStretch :
    (first tries : ℕ) → (old new : List FrozenEntry) → List Copied → MovedStretch
    → (before after : HandleOf) → Type 0
HasLeftStretch first tries old new answers moved =
    HasCalled (λ m before after. (middle : SeatOf)
    × HasFrozenStretch m first (max tries 1) before middle old new moved.stretch
    × HasMarkedAll m (take moved.stretch.listed new) (take moved.stretch.listed answers)
    (max tries 1) middle after moved.marked)

-- what happens in the core behind: they are copied
abbrev pub HasTakenStretch :
    List FrozenEntry → List Copied → MovedStretch → (before after : HandleOf) → Type 0
HasTakenStretch entries answers moved =
    HasCalled (λ m before after. HasCopiedAll m (take moved.stretch.listed entries) before after
    (take moved.stretch.listed answers))

-- The move of a stretch came to this code, of as many slots as there was room for, but no more than
-- 128; or one of the two maps isn't of one table, and nothing happened.
abbrev pub IsStretchMove :
    (are_cores : Bool) → (first tries : ℕ) → (code : ℤ) → (room room' : List MapEntry)
    → (told told' : CoreStretch) → (source source' target target' : Option HandleOf)
    → Type 0
IsStretchMove true first tries code room room' told told' source source' target target' =
    (old : List FrozenEntry) × (new : List FrozenEntry) × (answers : List Copied)
    × (moved : MovedStretch) × (length old ≡ min (length room) CORE_STRETCH)
    × IsStretchTold moved new answers code room room' told'
    × StaysOpen source source' (HasLeftStretch first tries old new answers moved)
    × StaysOpen target target' (HasTakenStretch new answers moved)
IsStretchMove false first tries code room room' told told' source source' target target' =
    (code ≡ E_TABLES) × (room' ≡ room) × (told' ≡ told) × (source' ≡ source) × (target' ≡ target)
