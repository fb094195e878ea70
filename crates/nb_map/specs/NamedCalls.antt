-- The writes of a map by name. Each is one conditional write.
use Rattle.std.specs.Prelude.{ℕ, Option, Some, None}
use Rattle.nb_core.specs.declared.calls.Call.TheVariants.{Write}
use Rattle.nb_core.specs.declared.calls.Call.{Call}
use Rattle.nb_core.specs.declared.calls.Change.TheVariants.{Put, Remove, Add}
use Rattle.nb_core.specs.declared.calls.Change.{Change}
use Rattle.nb_core.specs.declared.calls.Want.TheVariants.{Any, Absent, Present, Equal, Below}
use Rattle.nb_core.specs.declared.calls.Want.{Want}

abbrev pub put_of : (key number : ℕ) → Call
put_of key number = Write key Any (Put number)

abbrev pub put_if_absent_of : (key number : ℕ) → Call
put_if_absent_of key number = Write key Absent (Put number)

abbrev pub replace_of : (key number : ℕ) → Call
replace_of key number = Write key Present (Put number)

abbrev pub replace_if_of : (key old new : ℕ) → Call
replace_if_of key old new = Write key (Equal old) (Put new)

abbrev pub remove_of : (key : ℕ) → Call
remove_of key = Write key Any Remove

abbrev pub remove_if_of : (key number : ℕ) → Call
remove_if_of key number = Write key (Equal number) Remove

-- an absent number counts as 0
abbrev pub add_of : (key number : ℕ) → Call
add_of key number = Write key Any (Add number)

-- the same where the key has no number, or a smaller one than the limit
abbrev pub put_below_of : (key number limit : ℕ) → Call
put_below_of key number limit = Write key (Below limit) (Put number)

abbrev pub add_below_of : (key number limit : ℕ) → Call
add_below_of key number limit = Write key (Below limit) (Add number)

abbrev pub remove_below_of : (key limit : ℕ) → Call
remove_below_of key limit = Write key (Below limit) Remove

-- the condition that a key is at this number, or absent
abbrev pub want_of : Option ℕ → Want
want_of None = Absent
want_of (Some n) = Equal n

-- the change that sets a key to this number, or takes it out
abbrev pub change_to : Option ℕ → Change
change_to None = Remove
change_to (Some n) = Put n

-- the write that sets a key to `new` where it is at `old`
abbrev pub exchange_of : (k : ℕ) → (old new : Option ℕ) → Call
exchange_of k old new = Write k (want_of old) (change_to new)
