-- What the codes of C mean.
use Rattle.std.specs.Prelude.{◌==◌, ℕ, ℤ, Bool, true, false, nat_le, if◌then◌else◌, is_some, unwrap_or, Result, Ok, Err}
use Rattle.nb_core.specs.declared.calls.Call.{Call}
use Rattle.nb_core.specs.declared.calls.Call.TheVariants as call
use Rattle.nb_core.specs.declared.calls.Change.{Change}
use Rattle.nb_core.specs.declared.calls.Change.TheVariants as change
use Rattle.nb_core.specs.declared.calls.Reply.{Reply}
use Rattle.nb_core.specs.declared.calls.Want.{Want}
use Rattle.nb_core.specs.declared.calls.Want.TheVariants as want
use Rattle.nb_core.specs.declared.numbers.TheConstants.{KEY_MAX, VALUE_MAX}
use Rattle.nb_core.specs.declared.shapes.ShapeFault.{ShapeFault}
use Rattle.nb_core.specs.declared.shapes.ShapeFault.TheVariants as shape
use Rattle.nb_map.specs.declared.faults.PutFault.{PutFault}
use Rattle.nb_map.specs.declared.faults.PutFault.TheVariants as fault
use Rattle.nb_map.specs.declared.faults.SettleFault.{SettleFault}
use Rattle.nb_map.specs.declared.faults.SettleFault.TheVariants as settle
use Rattle.nb_map.specs.declared.occupancy.Occupancy.{Occupancy}
use Rattle.nb_ffi.specs.Checking.{and_then, map_ok}
use Rattle.nb_ffi.specs.declared.codes.WriteAsked.{WriteAsked}
use Rattle.nb_ffi.specs.declared.codes.WriteReply.{WriteReply}
use Rattle.nb_ffi.specs.declared.occupancy.MapOccupancy.{MapOccupancy}
use Rattle.nb_ffi.specs.declared.codes.TheConstants.{ADD, ANY, EQUAL, PUT, REMOVE, WANT_ABSENT, WANT_BELOW, WANT_PRESENT, E_CHANGE, E_CHUNK, E_CONTENDED, E_EXPONENTS, E_FALLING, E_FULL, E_KEY_RANGE, E_NOT_ALL_SEATS, E_OUT_OF_MEMORY, E_REPROBES, E_SEATS, E_SLOTS, E_STRIPES, E_SUM_RANGE, E_TABLES, E_VALUE_RANGE, E_WANT}

-- the code of a shape's fault
abbrev pub shape_code : ShapeFault → ℤ
shape_code shape.Bits = E_EXPONENTS
shape_code shape.Generations = E_TABLES
shape_code shape.Seats = E_SEATS
shape_code shape.Stripes = E_STRIPES
shape_code shape.Plan = E_FALLING
shape_code shape.Reprobes = E_REPROBES
shape_code shape.Chunk = E_CHUNK
shape_code shape.Keys = E_TABLES
shape_code shape.Slots = E_SLOTS

-- the code of a write's refusal
abbrev pub fault_code : PutFault → ℤ
fault_code fault.Full = E_FULL
fault_code fault.Contended = E_CONTENDED
fault_code fault.ValueRange = E_SUM_RANGE

-- the code of a refusal to settle seats
abbrev pub settle_code : SettleFault → ℤ
settle_code settle.NotAll = E_NOT_ALL_SEATS
settle_code settle.OutOfMemory = E_OUT_OF_MEMORY

-- the key of a number, or the code that it is none
abbrev pub checked_key : ℕ → Result ℕ ℤ
checked_key key = if nat_le key KEY_MAX then Ok key else Err E_KEY_RANGE

-- the value number of a number, or the code that it is none
abbrev pub checked_number : ℕ → Result ℕ ℤ
checked_number number = if nat_le number VALUE_MAX then Ok number else Err E_VALUE_RANGE

-- The condition of a code: nothing, that there is no number at the key, that there is one, that it
-- is this number, or that there is none or a smaller one.
abbrev pub checked_want : ℕ → ℕ → Result Want ℤ
checked_want code number =
    if code == ANY then Ok want.Any
    else if code == WANT_ABSENT then Ok want.Absent
    else if code == WANT_PRESENT then Ok want.Present
    else if code == EQUAL then map_ok want.Equal (checked_number number)
    else if code == WANT_BELOW then map_ok want.Below (checked_number number)
    else Err E_WANT

-- The change of a code: it puts the number, takes the key out, or adds the number.
abbrev pub checked_change : ℕ → ℕ → Result Change ℤ
checked_change code number =
    if code == PUT then map_ok change.Put (checked_number number)
    else if code == REMOVE then Ok change.Remove
    else if code == ADD then map_ok change.Add (checked_number number)
    else Err E_CHANGE

-- the write that C asks for by these codes and numbers, or the first code that one of them is none
abbrev pub checked_call : (key want old change number : ℕ) → Result Call ℤ
checked_call key want old change number =
    and_then (checked_key key) (λ the_key. and_then (checked_want want old) (λ the_want.
    map_ok (call.Write the_key the_want) (checked_change change number)))

-- a key and a number, or the code of the first of the two that is none
abbrev pub checked_entry : (key number : ℕ) → Result (ℕ × ℕ) ℤ
checked_entry key number =
    and_then (checked_key key) (λ the_key.
    map_ok (λ the_number. (the_key, the_number)) (checked_number number))

-- the call of the two
abbrev pub checked_with : (call : ℕ → ℕ → Call) → (key number : ℕ) → Result Call ℤ
checked_with call key number = map_ok (λ entry. call entry.0 entry.1) (checked_entry key number)

-- a key, a number and a limit, or the code of the first of the three that is none
abbrev pub checked_below : (key number limit : ℕ) → Result ((ℕ × ℕ) × ℕ) ℤ
checked_below key number limit =
    and_then (checked_entry key number) (λ entry.
    map_ok (λ the_limit. (entry, the_limit)) (checked_number limit))

-- the call of the three
abbrev pub checked_with_limit :
    (call : (key number limit : ℕ) → Call) → (key number limit : ℕ) → Result Call ℤ
checked_with_limit call key number limit =
    map_ok (λ below. call below.0.0 below.0.1 below.1) (checked_below key number limit)

-- the call that a write is
abbrev pub write_of : WriteAsked → Call
write_of asked = call.Write asked.key asked.want asked.change

-- a truth in C
abbrev pub truth_in_c : Bool → ℕ
truth_in_c true = 1
truth_in_c false = 0

-- A reply in C: the number that was there, or 0 where there was none; whether there was one, and
-- whether the condition held.
abbrev pub reply_in_c : Reply → WriteReply
reply_in_c reply =
    record {
      before = unwrap_or reply.before 0;
      had = truth_in_c (is_some reply.before);
      matched = truth_in_c reply.matched;
    }

-- how full a map is, in C
abbrev pub occupancy_in_c : Occupancy → MapOccupancy
occupancy_in_c found =
    record {
      taken = found.taken;
      looked = found.looked;
      is_last = truth_in_c found.is_last;
    }
