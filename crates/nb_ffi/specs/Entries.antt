-- The entries of an ended map, in a caller's array.
use Rattle.std.specs.Prelude.{◌≡◌, ◌⊎◌, ◌++◌, ◌<◌, ◌≤◌, ℕ, ℤ, List, length, map, drop}
use Rattle.nb_ffi.specs.declared.codes.TheConstants.{OK, E_OUT_OF_MEMORY, E_ROOM}
use Rattle.nb_ffi.specs.declared.ended_map.MapEntry.{MapEntry}

-- an entry in C
abbrev pub entry_in_c : ℕ × ℕ → MapEntry
entry_in_c pair = record { key = pair.0; number = pair.1 }

-- the array, with these entries written over its first places
abbrev pub written_over : List (ℕ × ℕ) → List MapEntry → List MapEntry
written_over entries room = map entry_in_c entries ++ drop (length entries) room

-- A request for these entries came to this code: they are in the array; or the array is as it was,
-- and too small, or there was no memory.
abbrev pub AreEntries :
    (code : ℤ) → (room room' : List MapEntry) → List (ℕ × ℕ) → Type 0
AreEntries code room room' entries =
    ((code ≡ OK) × (length entries ≤ length room) × (room' ≡ written_over entries room))
    ⊎ ((code ≡ E_ROOM) × (length room < length entries) × (room' ≡ room))
    ⊎ ((code ≡ E_OUT_OF_MEMORY) × (room' ≡ room))
