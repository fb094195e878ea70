-- Checks that follow one another: the first that fails decides.
use Rattle.std.specs.Prelude.{Result, Ok, Err}

-- this of the value, or the same error
abbrev pub map_ok : {T U E : Type 0} → (T → U) → Result T E → Result U E
map_ok f (Ok value) = Ok (f value)
map_ok f (Err error) = Err error

-- this check of the value, or the same error
abbrev pub and_then : {T U E : Type 0} → Result T E → (T → Result U E) → Result U E
and_then (Ok value) check = check value
and_then (Err error) check = Err error
