-- What the exports come to, by their codes.
use Rattle.std.specs.Prelude.{◌≡◌, ◌≢◌, ◌≤◌, ◌+◌, ◌^◌, ◌++◌, ◌⊎◌, ℕ, ℤ, [], length, Option, Some, None, Result, Ok, Err}
use Rattle.std.specs.FinMap as numbers
use Rattle.nb_core.specs.Plans.{Plan}
use Rattle.nb_core.specs.declared.calls.Call.{Call}
use Rattle.nb_core.specs.declared.calls.Reply.{Reply}
use Rattle.nb_map.specs.Ending.{EndedOf, map_left}
use Rattle.nb_map.specs.Handles.{HandleOf, IsWhole, seats_of}
use Rattle.nb_map.specs.Maps.{SeatOf}
use Rattle.nb_map.specs.Promises.{Refused, Replied, found_or_refused}
use Rattle.nb_map.specs.Walks.{IsWalkOf}
use Rattle.nb_map.specs.declared.faults.PutFault.{PutFault}
use Rattle.nb_map.specs.declared.occupancy.Occupancy.{Occupancy}
use Rattle.nb_ffi.specs.Closing.{IsEndOf}
use Rattle.nb_ffi.specs.Codes.{fault_code, occupancy_in_c, reply_in_c}
use Rattle.nb_ffi.specs.Cursors.{walk_in}
use Rattle.nb_ffi.specs.Handles.{HasAllSeats, IsNew, IsPartOf, StaysOpen}
use Rattle.nb_ffi.specs.Promises.{HasGot, HasMet, HasSampled, HasWalkedOn, HasWritten}
use Rattle.nb_ffi.specs.declared.codes.WriteReply.{WriteReply}
use Rattle.nb_ffi.specs.declared.codes.TheConstants.{ABSENT, E_LOST, E_NOT_ALL_SEATS, E_NO_SEAT, E_SEATS, OK, E_OUT_OF_MEMORY, PRESENT}
use Rattle.nb_ffi.specs.declared.cursor.Cursor.{Cursor}
use Rattle.nb_ffi.specs.declared.ended_map.EndedMap.{EndedMap}
use Rattle.nb_ffi.specs.declared.occupancy.MapOccupancy.{MapOccupancy}

-- A read came to this code: it found the number that is written, or none, and 0 is written; or the
-- key is none, and nothing happened.
abbrev pub IsGet :
    Result ℕ ℤ → (code : ℤ) → (number number' : ℕ) → (before after : Option HandleOf) → Type 0
IsGet (Ok key) code number number' before after =
    ((code ≡ PRESENT) × StaysOpen before after (HasGot key (Some number')))
    ⊎ ((code ≡ ABSENT) × (number' ≡ 0) × StaysOpen before after (HasGot key None))
IsGet (Err refusal) code number number' before after =
    (code ≡ refusal) × (number' ≡ number) × (after ≡ before)

-- A write came to this code: it was made, and its reply is written, each field of it; or it was
-- refused; or a number or a code of it is none, and nothing happened.
abbrev pub IsWrite :
    Result Call ℤ → (tries : ℕ) → (code : ℤ) → (reply reply' : WriteReply)
    → (before after : Option HandleOf)
    → Type 0
IsWrite (Ok call) tries code reply reply' before after =
    ((code ≡ OK) × ((made : Reply) × (reply' ≡ reply_in_c made)
    × StaysOpen before after (HasWritten call tries (Replied made))))
    ⊎ ((fault : PutFault) × (code ≡ fault_code fault) × (reply' ≡ reply)
    × StaysOpen before after (HasWritten call tries (Refused fault)))
IsWrite (Err refusal) tries code reply reply' before after =
    (code ≡ refusal) × (reply' ≡ reply) × (after ≡ before)

-- A write that answers what it found, or why it was refused, is told by this code: what it found is
-- written, or 0 where there was none; or nothing is written.
abbrev pub IsTold : Result (Option ℕ) PutFault → (code : ℤ) → (number number' : ℕ) → Type 0
IsTold (Ok (Some found)) code number number' = (code ≡ PRESENT) × (number' ≡ found)
IsTold (Ok None) code number number' = (code ≡ ABSENT) × (number' ≡ 0)
IsTold (Err fault) code number number' = (code ≡ fault_code fault) × (number' ≡ number)

-- A write that is asked for by its name came to this code: it was made, or it was refused, and that
-- is told; or its key or its number is none, and nothing happened.
abbrev pub IsNamedWrite :
    Result Call ℤ → (tries : ℕ) → (code : ℤ) → (number number' : ℕ)
    → (before after : Option HandleOf)
    → Type 0
IsNamedWrite (Ok call) tries code number number' before after =
    (answer : Result (Option ℕ) PutFault) × IsTold answer code number number'
    × StaysOpen before after (HasWritten call tries (found_or_refused answer))
IsNamedWrite (Err refusal) tries code number number' before after =
    (code ≡ refusal) × (number' ≡ number) × (after ≡ before)

-- both handles are of one map
abbrev pub AreOfOneMap : Option HandleOf → Option HandleOf → Type 0
AreOfOneMap a b =
    (one : HandleOf) (other : HandleOf) → a ≡ Some one → b ≡ Some other → one.map ≡ other.map

-- the other handle was open, and the seat has met its seat
abbrev pub HasMetHandle : (other : Option HandleOf) → (before after : HandleOf) → Type 0
HasMetHandle other before after =
    (known : HandleOf) × (other ≡ Some known) × HasMet known before after

-- A look at how full the map is was made, and what it found is written.
abbrev pub IsSample : MapOccupancy → (before after : Option HandleOf) → Type 0
IsSample written before after =
    (found : Occupancy) × (written ≡ occupancy_in_c found)
    × StaysOpen before after (HasSampled found)

-- the cursor has a walk that the handle's seat began
abbrev pub HasWalkOfSeat : Option HandleOf → Cursor → Type 0
HasWalkOfSeat held cursor =
    (handle : HandleOf) → held ≡ Some handle
    → (begun : SeatOf) × IsWalkOf handle.map handle.seat (walk_in begun cursor)

-- A walk went on with this code: it shows the pair that is written, or it has ended, and nothing is
-- written.
abbrev pub IsNext :
    (code : ℤ) → (cursor cursor' : Cursor) → (key key' number number' : ℕ)
    → (before after : Option HandleOf)
    → Type 0
IsNext code cursor cursor' key key' number number' before after =
    ((code ≡ PRESENT)
    × StaysOpen before after (HasWalkedOn cursor cursor' (Some (key', number'))))
    ⊎ ((code ≡ ABSENT) × (key' ≡ key) × (number' ≡ number)
    × StaysOpen before after (HasWalkedOn cursor cursor' None))

-- A map was opened with this code, or not: the handle has all seats of a new map of the shape; or
-- it is as it was, and the code is the shape's, or there was no memory.
abbrev pub IsOpening : Result Plan ℤ → (code : ℤ) → (before after : Option HandleOf) → Type 0
IsOpening (Ok p) code before after =
    ((code ≡ OK) × ((handle : HandleOf) × (after ≡ Some handle) × IsNew p handle))
    ⊎ ((code ≡ E_OUT_OF_MEMORY) × (after ≡ before))
IsOpening (Err refusal) code before after = (code ≡ refusal) × (after ≡ before)

-- it stands for a handle that has a seat in reserve
abbrev pub HasReserve : Option HandleOf → Type 0
HasReserve held = (handle : HandleOf) × (held ≡ Some handle) × (handle.reserve ≢ [])

-- A handle was split with this code; or both are as they were, for want of memory or of a seat in
-- reserve.
pub data IsSplit (code : ℤ) (before after other other' : Option HandleOf) : Type 0 where
  Split :
      code ≡ OK → (part : HandleOf) → other' ≡ Some part
      → StaysOpen before after (λ old new. IsPartOf old new part)
      → IsSplit code before after other other'
  Kept :
      code ≡ E_OUT_OF_MEMORY → HasReserve before → after ≡ before → other' ≡ other
      → IsSplit code before after other other'
  Lacks :
      code ≡ E_NO_SEAT → (handle : HandleOf) → before ≡ Some handle → handle.reserve ≡ []
      → after ≡ before → other' ≡ other
      → IsSplit code before after other other'

-- the handle has the seats of another one in reserve
pub record HasJoined (other : HandleOf) (before after : HandleOf) : Type 0 where
  pub map : after.map ≡ before.map
  pub seat : after.seat ≡ before.seat
  pub reserve : after.reserve ≡ before.reserve ++ seats_of other

-- Two handles were joined with this code, and the other is empty; or they are as they were, since
-- they have more seats than can be counted.
pub data IsJoin (code : ℤ) (before after other other' : Option HandleOf) : Type 0 where
  Joined :
      code ≡ OK → (given : HandleOf) → other ≡ Some given → other' ≡ None
      → StaysOpen before after (HasJoined given)
      → IsJoin code before after other other'
  Kept :
      code ≡ E_SEATS → (handle given : HandleOf) → before ≡ Some handle → other ≡ Some given
      → 2 ^ 63 ≤ length (seats_of handle) + length (seats_of given) → after ≡ before
      → other' ≡ other
      → IsJoin code before after other other'

-- A map was closed with this code, and its handle is empty; or all is as it was, for want of memory
-- or of seats. That a map is given up whose handle has all seats, since somebody else holds it, no
-- right caller sees.
pub data IsClose (code : ℤ) (before after : Option HandleOf) (left left' : Option EndedMap) :
    Type 0 where
  Closed :
      code ≡ OK → (handle : HandleOf) → before ≡ Some handle → after ≡ None → (end : EndedMap)
      → left' ≡ Some end → IsEndOf handle end
      → IsClose code before after left left'
  Kept :
      code ≡ E_OUT_OF_MEMORY → HasAllSeats before → after ≡ before → left' ≡ left
      → IsClose code before after left left'
  Lacks :
      code ≡ E_NOT_ALL_SEATS → (handle : HandleOf) → before ≡ Some handle
      → (IsWhole handle → ⊥) → after ≡ before → left' ≡ left
      → IsClose code before after left left'
  Lost :
      code ≡ E_LOST → (handle : HandleOf) → before ≡ Some handle → IsWhole handle
      → after ≡ None → left' ≡ left
      → IsClose code before after left left'

-- the handle holds this ended map
abbrev pub HoldsEnd : EndedOf → Option EndedMap → Type 0
HoldsEnd end handle = handle ≡ Some (record { ended = Some end })

-- the handle has an ended map
abbrev pub HasEnd : Option EndedMap → Type 0
HasEnd handle = (end : EndedOf) × HoldsEnd end handle

-- A look at an ended map came to this code: its number at the key is written, or there is none, and
-- 0 is written; or the key is none, and nothing is written.
abbrev pub IsEndGet : Result ℕ ℤ → (code : ℤ) → (number number' : ℕ) → EndedOf → Type 0
IsEndGet (Ok key) code number number' end =
    ((code ≡ PRESENT) × (numbers.get (map_left end) key ≡ Some number'))
    ⊎ ((code ≡ ABSENT) × (number' ≡ 0) × (numbers.get (map_left end) key ≡ None))
IsEndGet (Err refusal) code number number' end = (code ≡ refusal) × (number' ≡ number)
