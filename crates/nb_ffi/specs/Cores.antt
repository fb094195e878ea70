-- What the exports promise of a core, a map of one table that keys enter and leave, and what they
-- come to, by their codes.
use Rattle.std.specs.Prelude.{◌≡◌, ◌==◌, ◌-◌, ℕ, ℤ, max, nat_le, if◌then◌else◌, Bool, false, Option, Some, None, Result, Ok, Err}
use Rattle.nb_core.specs.Calls.{same_number}
use Rattle.nb_core.specs.Plans.{generations_of}
use Rattle.nb_core.specs.declared.calls.Call.{Call}
use Rattle.nb_map.specs.Handles.{HandleOf}
use Rattle.nb_map.specs.NamedCalls.{add_below_of, exchange_of, put_below_of, remove_below_of, replace_if_of}
use Rattle.nb_migration.specs.Copying as copying
use Rattle.nb_migration.specs.Numbers.{frozen_of, seen_of}
use Rattle.nb_migration.specs.Settling as settling
use Rattle.nb_migration.specs.Writes as writes
use Rattle.nb_migration.specs.declared.copying.Copied.{Copied}
use Rattle.nb_migration.specs.declared.copying.Copied.TheVariants as copied
use Rattle.nb_migration.specs.declared.numbers.Seen.{Seen}
use Rattle.nb_migration.specs.declared.numbers.Seen.TheVariants as seen
use Rattle.nb_migration.specs.declared.numbers.TheConstants.{USER_END, USER_MAX}
use Rattle.nb_migration.specs.declared.writes.CoreFault.{CoreFault}
use Rattle.nb_migration.specs.declared.writes.CoreFault.TheVariants as fault
use Rattle.nb_migration.specs.declared.writes.Written.{Written}
use Rattle.nb_migration.specs.declared.writes.Written.TheVariants as written
use Rattle.nb_ffi.specs.Checking.{and_then, map_ok}
use Rattle.nb_ffi.specs.Codes.{checked_key}
use Rattle.nb_ffi.specs.Handles.{StaysOpen}
use Rattle.nb_ffi.specs.Promises.{HasCalled, HasGot}
use Rattle.nb_ffi.specs.declared.codes.TheConstants.{CORE_ABSENT, CORE_CAME, CORE_CHANGED, CORE_CLOSED, CORE_FROZEN, CORE_FULL, CORE_HAD_NUMBER, CORE_KEPT, CORE_MOVED, CORE_OPEN, CORE_SETTLED, EQUAL, E_CHANGE, E_CONTENDED, E_FULL, E_SUM_RANGE, E_TABLES, E_VALUE_RANGE, E_WANT, PUT, REMOVE, WANT_ABSENT}

-- ---- what is asked for

-- the number of the user, or the code that it is none
abbrev pub checked_user : ℕ → Result ℕ ℤ
checked_user number = if nat_le number USER_MAX then Ok number else Err E_VALUE_RANGE

-- a key and a number of the user, or the code of the first of the two that is none
abbrev pub checked_user_entry : (key number : ℕ) → Result (ℕ × ℕ) ℤ
checked_user_entry key number =
    and_then (checked_key key) (λ the_key.
    map_ok (λ the_number. (the_key, the_number)) (checked_user number))

-- the call of the two
abbrev pub checked_user_with : (call : ℕ → ℕ → Call) → (key number : ℕ) → Result Call ℤ
checked_user_with call key number =
    map_ok (λ entry. call entry.0 entry.1) (checked_user_entry key number)

-- the put below all that isn't the user's
abbrev pub open_put_of : (key number : ℕ) → Call
open_put_of key number = put_below_of key number USER_END

-- the add whose sum is the user's
abbrev pub open_add_of : (key number : ℕ) → Call
open_add_of key number = add_below_of key number (USER_END - number)

-- the removal below all that isn't the user's
abbrev pub open_remove_of : (key : ℕ) → Call
open_remove_of key = remove_below_of key USER_END

-- a key and two numbers of the user, or the code of the first of the three that is none
abbrev pub checked_user_pair : (key old new : ℕ) → Result ((ℕ × ℕ) × ℕ) ℤ
checked_user_pair key old new =
    and_then (checked_user_entry key old) (λ entry.
    map_ok (λ the_new. (entry, the_new)) (checked_user new))

-- the call of the three
abbrev pub checked_replace_if : (key old new : ℕ) → Result Call ℤ
checked_replace_if key old new =
    map_ok (λ pair. replace_if_of pair.0.0 pair.0.1 pair.1) (checked_user_pair key old new)

-- what an exchange expects, by the code of a condition: that there is no number, or this one
abbrev pub checked_expected : (code number : ℕ) → Result (Option ℕ) ℤ
checked_expected code number =
    if code == WANT_ABSENT then Ok None
    else if code == EQUAL then map_ok Some (checked_user number)
    else Err E_WANT

-- what an exchange leaves, by the code of a change: this number, or none
abbrev pub checked_left : (code number : ℕ) → Result (Option ℕ) ℤ
checked_left code number =
    if code == PUT then map_ok Some (checked_user number)
    else if code == REMOVE then Ok None
    else Err E_CHANGE

-- a key, what is expected and what is left, or the first code that one of them is none
abbrev pub checked_sides :
    (key want old change number : ℕ) → Result ((ℕ × Option ℕ) × Option ℕ) ℤ
checked_sides key want old change number =
    and_then (checked_key key) (λ the_key. and_then (checked_expected want old) (λ expected.
    map_ok (λ left. ((the_key, expected), left)) (checked_left change number)))

-- the exchange of the three
abbrev pub checked_exchange : (key want old change number : ℕ) → Result Call ℤ
checked_exchange key want old change number =
    map_ok (λ sides. exchange_of sides.0.0 sides.0.1 sides.1)
    (checked_sides key want old change number)

-- the handle's map has one table
abbrev pub is_core : Option HandleOf → Bool
is_core None = false
is_core (Some handle) = generations_of handle.map.chain.shape == 1

-- a key and a number of the user for a copy, or the first code that one of them is none, or that
-- the map isn't of one table
abbrev pub checked_copy : (target : Option HandleOf) → (key number : ℕ) → Result (ℕ × ℕ) ℤ
checked_copy target key number =
    and_then (checked_user_entry key number) (λ entry.
    if is_core target then Ok entry else Err E_TABLES)

-- ---- what is answered

-- the code of a refusal
abbrev pub core_fault_code : CoreFault → ℤ
core_fault_code fault.Full = E_FULL
core_fault_code fault.Contended = E_CONTENDED
core_fault_code fault.SumRange = E_SUM_RANGE

-- the code and the number that tell what a key has, 0 where there is none to tell
abbrev pub seen_in_c : Seen → ℤ × ℕ
seen_in_c (seen.Open n) = (CORE_OPEN, n)
seen_in_c (seen.Frozen n) = (CORE_FROZEN, n)
seen_in_c seen.Closed = (CORE_CLOSED, 0)
seen_in_c seen.Absent = (CORE_ABSENT, 0)

-- the same for what has become of a write
abbrev pub written_in_c : Written → ℤ × ℕ
written_in_c written.Came = (CORE_CAME, 0)
written_in_c (written.Changed n) = (CORE_CHANGED, n)
written_in_c (written.Kept n) = (CORE_KEPT, n)
written_in_c written.Absent = (CORE_ABSENT, 0)
written_in_c written.Moved = (CORE_MOVED, 0)

-- what tells the answer of a step, or the code of a refusal
abbrev pub seen_told : Result Seen CoreFault → Result (ℤ × ℕ) ℤ
seen_told (Ok seen) = Ok (seen_in_c seen)
seen_told (Err fault) = Err (core_fault_code fault)

-- the same for the answer of a write
abbrev pub written_told : Result Written CoreFault → Result (ℤ × ℕ) ℤ
written_told (Ok written) = Ok (written_in_c written)
written_told (Err fault) = Err (core_fault_code fault)

-- the code of what has become of a copy
abbrev pub copied_code : Copied → ℤ
copied_code copied.Came = CORE_CAME
copied_code copied.HadNumber = CORE_HAD_NUMBER
copied_code copied.Closed = CORE_CLOSED
copied_code copied.Full = CORE_FULL

-- the same, or that the source has no such number frozen any more
abbrev pub copied_on_code : Option Copied → ℤ
copied_on_code (Some copied) = copied_code copied
copied_on_code None = CORE_SETTLED

-- the code of a copy and its mark
abbrev pub marked_code : Result Copied CoreFault → ℤ
marked_code (Ok copied) = copied_code copied
marked_code (Err fault) = core_fault_code fault

-- the code and the number came to be told; or the refusal, and nothing is written
abbrev pub IsTelling : Result (ℤ × ℕ) ℤ → (code : ℤ) → (number number' : ℕ) → Type 0
IsTelling (Ok told) code number number' = (code ≡ told.0) × (number' ≡ told.1)
IsTelling (Err refusal) code number number' = (code ≡ refusal) × (number' ≡ number)

-- ---- what the calls of a core promise, said of the handle that makes them

-- a write in one call
abbrev pub HasWrittenOpen :
    Call → (tries : ℕ) → Result Written CoreFault → (before after : HandleOf) → Type 0
HasWrittenOpen call tries answer =
    HasCalled (λ m before after. writes.HasWrittenOpen m call before after (max tries 1) answer)

-- a write that reads first
abbrev pub HasReadThenWritten :
    (new_of : Option ℕ → Option ℕ) → (key tries : ℕ) → Result Written CoreFault
    → (before after : HandleOf) → Type 0
HasReadThenWritten new_of key tries answer =
    HasCalled (λ m before after.
    writes.HasReadThenWritten m new_of key before after (max tries 1) answer)

-- a step by which a key leaves the core
abbrev pub HasStepped :
    Call → (tries : ℕ) → Result Seen CoreFault → (before after : HandleOf) → Type 0
HasStepped call tries answer =
    HasCalled (λ m before after. settling.HasStepped m call before after (max tries 1) answer)

-- a copy of a number to the core
abbrev pub HasCopiedNumber : (key number : ℕ) → Copied → (before after : HandleOf) → Type 0
HasCopiedNumber key number answer =
    HasCalled (λ m before after. copying.HasCopiedNumber m key number before after answer)

-- the same, where the number is frozen in its source still
abbrev pub HasCopiedStill :
    (frozen : Bool) → (key number : ℕ) → Option Copied → (before after : HandleOf) → Type 0
HasCopiedStill frozen key number answer =
    HasCalled (λ m before after. copying.HasCopiedStill frozen m key number before after answer)

-- the mark of the source after a copy
abbrev pub HasMarkedAfter :
    Copied → (key number tries : ℕ) → Result Copied CoreFault → (before after : HandleOf) → Type 0
HasMarkedAfter copied key number tries answer =
    HasCalled (λ m before after.
    copying.HasMarkedAfter copied m key number before after (max tries 1) answer)

-- ---- what the exports come to

-- A look came to this code: what the key has is told; or the key is none, and nothing happened.
abbrev pub IsLook :
    Result ℕ ℤ → (code : ℤ) → (number number' : ℕ) → (before after : Option HandleOf) → Type 0
IsLook (Ok key) code number number' before after =
    (found : Option ℕ) × IsTelling (seen_told (Ok (seen_of found))) code number number'
    × StaysOpen before after (HasGot key found)
IsLook (Err refusal) code number number' before after =
    (code ≡ refusal) × (number' ≡ number) × (after ≡ before)

-- A write in one call came to this code: it was made, or refused, and that is told; or a number or a
-- code of it is none, and nothing happened.
abbrev pub IsCoreWrite :
    Result Call ℤ → (tries : ℕ) → (code : ℤ) → (number number' : ℕ)
    → (before after : Option HandleOf)
    → Type 0
IsCoreWrite (Ok call) tries code number number' before after =
    (answer : Result Written CoreFault) × IsTelling (written_told answer) code number number'
    × StaysOpen before after (HasWrittenOpen call tries answer)
IsCoreWrite (Err refusal) tries code number number' before after =
    (code ≡ refusal) × (number' ≡ number) × (after ≡ before)

-- The same of a write that reads first, where `new_of` tells what it makes of what it finds, by its
-- number.
abbrev pub IsCoreUpdate :
    (new_of : ℕ → Option ℕ → Option ℕ) → Result (ℕ × ℕ) ℤ → (tries : ℕ) → (code : ℤ)
    → (number number' : ℕ) → (before after : Option HandleOf)
    → Type 0
IsCoreUpdate new_of (Ok entry) tries code number number' before after =
    (answer : Result Written CoreFault) × IsTelling (written_told answer) code number number'
    × StaysOpen before after (HasReadThenWritten (new_of entry.1) entry.0 tries answer)
IsCoreUpdate new_of (Err refusal) tries code number number' before after =
    (code ≡ refusal) × (number' ≡ number) × (after ≡ before)

-- A step came to this code: it was made, or refused, and what the key has then is told; or its key or
-- its number is none, and nothing happened.
abbrev pub IsStep :
    Result Call ℤ → (tries : ℕ) → (code : ℤ) → (number number' : ℕ)
    → (before after : Option HandleOf)
    → Type 0
IsStep (Ok call) tries code number number' before after =
    (answer : Result Seen CoreFault) × IsTelling (seen_told answer) code number number'
    × StaysOpen before after (HasStepped call tries answer)
IsStep (Err refusal) tries code number number' before after =
    (code ≡ refusal) × (number' ≡ number) × (after ≡ before)

-- A copy came to this code: it was made; or its key, its number or its core is none, and nothing
-- happened.
abbrev pub IsCopy : Result (ℕ × ℕ) ℤ → (code : ℤ) → (before after : Option HandleOf) → Type 0
IsCopy (Ok entry) code before after =
    (answer : Copied) × (code ≡ copied_code answer)
    × StaysOpen before after (HasCopiedNumber entry.0 entry.1 answer)
IsCopy (Err refusal) code before after = (code ≡ refusal) × (after ≡ before)

-- The same of one that goes on, after a read of its source.
abbrev pub IsCopyOn :
    Result (ℕ × ℕ) ℤ → (code : ℤ) → (source source' target target' : Option HandleOf) → Type 0
IsCopyOn (Ok entry) code source source' target target' =
    (found : Option ℕ) × (answer : Option Copied) × (code ≡ copied_on_code answer)
    × StaysOpen source source' (HasGot entry.0 found)
    × StaysOpen target target' (HasCopiedStill (same_number found (Some (frozen_of entry.1)))
    entry.0 entry.1 answer)
IsCopyOn (Err refusal) code source source' target target' =
    (code ≡ refusal) × (source' ≡ source) × (target' ≡ target)

-- The same of one after which the source is marked.
abbrev pub IsMarkedCopy :
    Result (ℕ × ℕ) ℤ → (tries : ℕ) → (code : ℤ)
    → (source source' target target' : Option HandleOf) → Type 0
IsMarkedCopy (Ok entry) tries code source source' target target' =
    (copied : Copied) × (answer : Result Copied CoreFault) × (code ≡ marked_code answer)
    × StaysOpen target target' (HasCopiedNumber entry.0 entry.1 copied)
    × StaysOpen source source' (HasMarkedAfter copied entry.0 entry.1 tries answer)
IsMarkedCopy (Err refusal) tries code source source' target target' =
    (code ≡ refusal) × (source' ≡ source) × (target' ≡ target)
