-- How contracts see a typed map, and what its calls are made of: calls of the map of numbers, in
-- its log, with values that the store holds under these numbers.
use Rattle.std.specs.Prelude.{◌≡◌, ℕ, ◌+◌, ◌*◌, ◌≤◌, Bool, true, false, List, ◌∷◌, Option, Some, None, option_map, Result, Ok, Err, All}
use Rattle.boxcar.specs.Table.{Shelves, Shows, Where}
use Rattle.nb_core.specs.Log.{reply_at}
use Rattle.nb_core.specs.Plans.{Plan}
use Rattle.nb_core.specs.declared.calls.Call.TheVariants as call
use Rattle.nb_core.specs.declared.calls.Call.{Call}
use Rattle.nb_core.specs.declared.calls.Change.TheVariants as change
use Rattle.nb_core.specs.declared.calls.Change.{Change}
use Rattle.nb_core.specs.declared.calls.Reply.{Reply}
use Rattle.nb_core.specs.declared.calls.Want.TheVariants as want
use Rattle.nb_core.specs.declared.calls.Want.{Want}
use Rattle.nb_map.specs.Logs.{HasLogged}
use Rattle.nb_map.specs.Maps.{HasWorked, MapOf, SeatOf}
use Rattle.nb_map.specs.Progress.{passed_since}
use Rattle.nb_map.specs.Steps.{get_steps, put_steps}
use Rattle.nb_long.specs.declared.map.LongFault.TheVariants as fault
use Rattle.nb_long.specs.declared.map.LongFault.{LongFault}
use Rattle.nb_long.specs.declared.map.Unshown.{Unshown}
use Rattle.nb_long.specs.declared.store.StoreFault.TheVariants as store_fault
use Rattle.nb_long.specs.declared.store.StoreFault.{StoreFault}

-- a typed map: the map of numbers, and the store
pub record LongMapOf : Type 0 where
  pub map : MapOf
  pub store : Shelves

-- ---- reads

-- What is found where the map has this number at a key, or none: nothing where it has none; else
-- what the store shows under the number, if it shows anything.
abbrev pub IsValueShown :
    {V : Type 0} → Shelves → Option ℕ → Result (Option (Where V)) Unshown → Type 0
IsValueShown store number (Ok None) = number ≡ None
IsValueShown store number (Ok (Some found)) = Shows store found × (number ≡ Some found.index)
IsValueShown store number (Err unshown) = (n : ℕ) × (number ≡ Some n)

-- ---- writes

-- the map's call that puts the number of this token where the condition holds
abbrev pub put_where : {V : Type 0} → (key : ℕ) → Want → Where V → Call
put_where key want token = call.Write key want (change.Put token.index)

-- a fault of the store, as one of the map
abbrev pub as_fault : {V : Type 0} → StoreFault V → LongFault V
as_fault (store_fault.OutOfMemory back) = fault.OutOfMemory back
as_fault (store_fault.ValueRange placed) = fault.ValueRange placed

-- ---- writes where the key has an equal value

-- a call of the key that has changed nothing: a read, or a write whose condition didn't hold
abbrev pub IsIdle : (key : ℕ) → Call × Reply → Type 0
IsIdle key (call.Get k, reply) = k ≡ key
IsIdle key (call.Write k want change, reply) = (k ≡ key) × (reply.matched ≡ false)

-- how many exchanges on the key other seats have won since the seat had seen no more than `before`
abbrev pub passed_on : (key : ℕ) → (before after : SeatOf) → ℕ
passed_on key before after = passed_since (call.Get key) before.chain after.chain

-- the most steps of a round: of a read, and of a write with one try after it
abbrev pub round_steps : Plan → ℕ
round_steps p = get_steps p + put_steps p 1

-- The seat has made such calls alone, and counted nothing, and another seat has won an exchange on
-- the key meanwhile.
pub record HasLostRound (key : ℕ) (before after : SeatOf) : Type 0 where
  pub made : List (Call × Reply)
  pub idle : All (IsIdle key) made
  pub logged : HasLogged before after made
  pub count : after.count ≡ before.count
  pub won : 1 ≤ passed_on key before after

-- The call is lock-free: it has taken no more steps than a round takes for each exchange that other
-- seats have won on its key meanwhile, and one round more. To the tables it has done no more than a
-- read of the key may, which installs none, and claims a slot only for a key that has one in the
-- table below. On the counter it has made one step at most.
abbrev pub IsLockFreeIf : LongMapOf → (key : ℕ) → (before after : SeatOf) → Type 0
IsLockFreeIf m key before after = HasWorked m.map (call.Get key) before after
    ((passed_on key before after + 1) * round_steps m.map.chain.shape)

-- The seat has made this call, with its reply, after none or some that have changed nothing.
pub record HasMadeLast (key : ℕ) (made : Call × Reply) (before after : SeatOf) : Type 0 where
  pub earlier : List (Call × Reply)
  pub idle : All (IsIdle key) earlier
  pub logged : HasLogged before after (made ∷ earlier)

-- a read of the key that found this number, or none
abbrev pub read_that_found : (key : ℕ) → Option ℕ → Call × Reply
read_that_found key number = (call.Get key, reply_at (call.Get key) number)

-- the last call where this number was found: if the change is done, the write that matched on the
-- number, else the read that found it
abbrev pub last_call : (key n : ℕ) → Change → (done : Bool) → Call × Reply
last_call key n change true =
    (call.Write key (want.Equal n) change, record { before = Some n; matched = true })
last_call key n change false = read_that_found key (Some n)

-- What was found at the key at last, as a token of the store, and whether the change was done: just
-- where the token's value is equal to the given one. Where nothing was found, nothing is done.
abbrev pub HasCompared :
    {V : Type 0} → (V → V → Bool) → LongMapOf → (key : ℕ) → V → Change → (before after : SeatOf)
    → Option (Where V) → Bool → Type 0
HasCompared eq m key value change before after (Some token) done =
    Shows m.store token × (eq token.value value ≡ done)
    × HasMadeLast key (last_call key token.index change done) before after
HasCompared eq m key value change before after None done =
    (done ≡ false) × HasMadeLast key (read_that_found key None) before after

-- the number of a token, if there is one
abbrev pub number_of : {V : Type 0} → Option (Where V) → Option ℕ
number_of token = option_map (λ (token : Where _). token.index) token

-- the last call is a read of a number that the store didn't show, and nothing was changed
abbrev pub IsUnshown : (key : ℕ) → (before after : SeatOf) → Type 0
IsUnshown key before after =
    (n : ℕ) × HasMadeLast key (read_that_found key (Some n)) before after
