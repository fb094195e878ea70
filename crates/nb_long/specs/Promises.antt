-- What the calls of a typed map promise: one record for each kind of call. The map and its handles
-- cite them. `number_at`, `remove` and `meet` promise what the map of numbers promises of its calls
-- of these kinds (`HasGot`, `HasWritten` and `HasMet` of nb_map/specs/Promises.antt).
use Rattle.std.specs.Prelude.{◌≡◌, ◌<◌, ℕ, Bool, Option, Some, None, Result, Ok, Err}
use Rattle.boxcar.specs.Table.{Shelves, Where}
use Rattle.nb_core.specs.declared.calls.Call.TheVariants as call
use Rattle.nb_core.specs.declared.calls.Change.{Change}
use Rattle.nb_core.specs.declared.calls.Change.TheVariants as change
use Rattle.nb_core.specs.declared.calls.Want.{Want}
use Rattle.nb_core.specs.declared.numbers.TheConstants.{VALUE_MAX}
use Rattle.nb_map.specs.Maps.{HasWorked, IsMine, SeatOf}
use Rattle.nb_map.specs.NamedCalls.{change_to}
use Rattle.nb_map.specs.Progress.{Unlimited}
use Rattle.nb_map.specs.Promises.{HasGot, HasWritten, Refused, Replied}
use Rattle.nb_map.specs.declared.faults.PutFault.TheVariants as put_fault
use Rattle.nb_long.specs.Stores.{HasStored}
use Rattle.nb_long.specs.Typed.{HasCompared, HasLostRound, IsLockFreeIf, IsUnshown, IsValueShown, LongMapOf, number_of, put_where, round_steps}
use Rattle.nb_long.specs.declared.map.Compared.{Compared}
use Rattle.nb_long.specs.declared.map.LongFault.{LongFault}
use Rattle.nb_long.specs.declared.map.LongFault.TheVariants as fault
use Rattle.nb_long.specs.declared.map.Replaced.{Replaced}
use Rattle.nb_long.specs.declared.map.Stored.{Stored}
use Rattle.nb_long.specs.declared.map.Unshown.{Unshown}

-- ---- reads

-- what `get` promises, which answers what the store shows
pub record HasGotValue {V : Type 0} (m : LongMapOf) (key : ℕ) (before after : SeatOf)
    (result : Result (Option (Where V)) Unshown) : Type 0 where
  -- the map's `get` of the key finds this number, or none
  pub number : Option ℕ
  pub got : HasGot m.map key before after number
  -- and what the store has under it is shown
  pub shown : IsValueShown m.store number result

-- ---- writes

-- The value is stored, and the answer has what reads it. Or there was no memory for it, and it
-- comes back.
abbrev pub IsStoredOrReturned :
    {V : Type 0} → Shelves → V → Result (Stored V) (LongFault V) → Type 0
IsStoredOrReturned store value (Ok stored) = HasStored store value stored.receipt
IsStoredOrReturned store value (Err (fault.OutOfMemory back)) = back ≡ value
IsStoredOrReturned store value (Err (fault.ValueRange placed)) =
    HasStored store value placed × (VALUE_MAX < placed.index)
IsStoredOrReturned store value (Err (fault.Full receipt)) = HasStored store value receipt
IsStoredOrReturned store value (Err (fault.Unshown receipt)) = HasStored store value receipt

-- The seat has made the map's one write that puts the value's number where the condition holds, and
-- the answer is that write's. Or the map was full. Where the value has no number, no call was made.
abbrev pub HasPutNumber :
    {V : Type 0} → LongMapOf → (key : ℕ) → Want → (before after : SeatOf)
    → Result (Stored V) (LongFault V) → Type 0
HasPutNumber m key want before after (Ok stored) =
    HasWritten m.map (put_where key want stored.receipt) before after Unlimited
    (Replied (record { before = stored.before; matched = stored.done }))
HasPutNumber m key want before after (Err (fault.OutOfMemory back)) = after ≡ before
HasPutNumber m key want before after (Err (fault.ValueRange placed)) = after ≡ before
HasPutNumber m key want before after (Err (fault.Full receipt)) =
    HasWritten m.map (put_where key want receipt) before after Unlimited (Refused put_fault.Full)
HasPutNumber m key want before after (Err (fault.Unshown receipt)) = ⊥

-- what `put`, `put_if_absent` and `replace` promise
pub record HasPutValue {V : Type 0} (m : LongMapOf) (key : ℕ) (want : Want) (value : V)
    (before after : SeatOf) (result : Result (Stored V) (LongFault V)) : Type 0 where
  -- the value is stored, or it comes back
  pub kept : IsStoredOrReturned m.store value result
  -- once it is stored, this is a write of the map, with all that such a write promises
  pub wrote : HasPutNumber m key want before after result
  -- the seat is still the map's
  pub own : IsMine m.map after

-- ---- writes where the key has an equal value

-- what was compared at last, and whether the change was made; or the store didn't show the value
abbrev pub HasAnsweredIf :
    {V : Type 0} → (V → V → Bool) → LongMapOf → (key : ℕ) → V → Change → (before after : SeatOf)
    → Result (Compared V) Unshown → Type 0
HasAnsweredIf eq m key value change before after (Ok compared) =
    HasCompared eq m key value change before after compared.found compared.done
HasAnsweredIf eq m key value change before after (Err unshown) = IsUnshown key before after

-- what `take_if` promises, whose change takes the key out
pub record HasChangedIf {V : Type 0} (eq : V → V → Bool) (m : LongMapOf) (key : ℕ) (value : V)
    (change : Change) (before after : SeatOf) (result : Result (Compared V) Unshown) :
    Type 0 where
  -- the change was made just where the value that was compared is equal to the given one
  pub answered : HasAnsweredIf eq m key value change before after result
  -- its steps have a bound that grows only with the exchanges that others win on its key
  pub lock_free : IsLockFreeIf m key before after
  pub own : IsMine m.map after

-- the answer of `remove_if`, with the token that it doesn't tell
abbrev pub with_token :
    {V : Type 0} → Option (Where V) → Result Bool Unshown → Result (Compared V) Unshown
with_token found (Ok done) = Ok (record { found = found; done = done })
with_token found (Err unshown) = Err unshown

-- The same of `replace_if`, whose change puts the value's number, and which tells the number that
-- the key had. Where the value has no number, no call was made. There is always a slot for it.
abbrev pub HasReplaced :
    {V : Type 0} → (V → V → Bool) → LongMapOf → (key : ℕ) → V → (before after : SeatOf)
    → Option (Where V) → Result (Stored V) (LongFault V) → Type 0
HasReplaced eq m key old before after found (Ok stored) =
    HasCompared eq m key old (change.Put stored.receipt.index) before after found stored.done
    × (stored.before ≡ number_of found)
HasReplaced eq m key old before after found (Err (fault.OutOfMemory back)) = after ≡ before
HasReplaced eq m key old before after found (Err (fault.ValueRange placed)) = after ≡ before
HasReplaced eq m key old before after found (Err (fault.Full receipt)) = ⊥
HasReplaced eq m key old before after found (Err (fault.Unshown receipt)) =
    IsUnshown key before after

-- what `replace_if` promises, with what was compared
pub record HasReplacedIf {V : Type 0} (eq : V → V → Bool) (m : LongMapOf) (key : ℕ) (old new : V)
    (before after : SeatOf) (found : Option (Where V))
    (result : Result (Stored V) (LongFault V)) : Type 0 where
  -- the new value is stored, or it comes back
  pub kept : IsStoredOrReturned m.store new result
  -- its number was put just where the value that was compared is equal to the old one
  pub answered : HasReplaced eq m key old before after found result
  pub lock_free : IsLockFreeIf m key before after
  pub own : IsMine m.map after

-- what `replace_if_told` answers that `replace_if` does, too
abbrev pub stored_in :
    {V : Type 0} → Result (Replaced V) (LongFault V) → Result (Stored V) (LongFault V)
stored_in (Ok replaced) = Ok replaced.stored
stored_in (Err refusal) = Err refusal

-- and what it answers besides
abbrev pub found_in : {V : Type 0} → Result (Replaced V) (LongFault V) → Option (Where V)
found_in (Ok replaced) = replaced.found
found_in (Err refusal) = None

-- The answer of a round of these: that of the whole call. Or there is none, since another seat has
-- written the key after it was read, and the round has changed nothing. The change sets the key to
-- the new number, or takes it out.
abbrev pub HasAnsweredRound :
    {V : Type 0} → (V → V → Bool) → LongMapOf → (key : ℕ) → V → (new : Option ℕ)
    → (before after : SeatOf) → Result (Option (Compared V)) Unshown → Type 0
HasAnsweredRound eq m key value new before after (Ok (Some compared)) =
    HasAnsweredIf eq m key value (change_to new) before after (Ok compared)
HasAnsweredRound eq m key value new before after (Ok None) = HasLostRound key before after
HasAnsweredRound eq m key value new before after (Err unshown) =
    HasAnsweredIf eq m key value (change_to new) before after (Err unshown)

-- what a round promises
pub record HasMadeRound {V : Type 0} (eq : V → V → Bool) (m : LongMapOf) (key : ℕ) (value : V)
    (new : Option ℕ) (before after : SeatOf) (result : Result (Option (Compared V)) Unshown) :
    Type 0 where
  pub answered : HasAnsweredRound eq m key value new before after result
  pub worked : HasWorked m.map (call.Get key) before after (round_steps m.map.chain.shape)
  pub own : IsMine m.map after
