-- Updates of the value at a key by a function.
--
-- The function of an update may change as it is called. It is told by its steps: `Step f was new g`
-- says that a call of `f` at `was` may answer `new`, and leave the function as `g`. It is called
-- with a reference to a value, or none, and answers a value, or none.
use Rattle.std.specs.Borrow.{Bor}
use Rattle.std.specs.Prelude.{◌≡◌, ◌<◌, ◌≤◌, ◌+◌, ◌*◌, ℕ, true, false, List, [], ◌∷◌, length, Option, Some, None, option_map, Result, Ok, Err, Contains, IfSome}
use Rattle.boxcar.specs.Table.{Shelves, Shows, Where}
use Rattle.nb_core.specs.declared.calls.Call.TheVariants.{Get}
use Rattle.nb_core.specs.declared.calls.Call.{Call}
use Rattle.nb_core.specs.declared.calls.Reply.{Reply}
use Rattle.nb_core.specs.declared.numbers.TheConstants.{VALUE_MAX}
use Rattle.nb_map.specs.Maps.{HasWorked, IsMine, SeatOf}
use Rattle.nb_map.specs.NamedCalls.{exchange_of}
use Rattle.nb_map.specs.Progress.{Tries}
use Rattle.nb_map.specs.Promises.{Found, HasWritten, Matched, Outcome, Refused, Replied}
use Rattle.nb_map.specs.declared.faults.PutFault.TheVariants as put_fault
use Rattle.nb_long.specs.Promises.{HasGotValue}
use Rattle.nb_long.specs.Typed.{HasMadeLast, LongMapOf, number_of, passed_on, read_that_found, round_steps}
use Rattle.nb_long.specs.declared.map.Unshown.{Unshown}
use Rattle.nb_long.specs.declared.map.updating.UpdateFault.TheVariants as fault
use Rattle.nb_long.specs.declared.map.updating.UpdateFault.{UpdateFault}
use Rattle.nb_long.specs.declared.map.updating.Updated.{Updated}
use Rattle.nb_long.specs.declared.store.StoreFault.TheVariants as store_fault
use Rattle.nb_long.specs.declared.store.StoreFault.{StoreFault}

-- a fault of the store, as one of an update
abbrev pub as_update_fault : {V : Type 0} → StoreFault V → UpdateFault V
as_update_fault (store_fault.OutOfMemory back) = fault.OutOfMemory back
as_update_fault (store_fault.ValueRange placed) = fault.ValueRange placed

-- ---- one try

-- The function is called once, with the value that was found, or with none, and answers this.
pub record HasComputed {F V : Type 0} (Step : F → Option (Bor V) → Option V → F → Type 0)
    (function : F) (found : Option (Where V)) (value : Option V) (left : F) : Type 0 where
  pub was : Option (Bor V)
  pub shows :
      option_map (λ (shown : Bor V). shown.now) was
      ≡ option_map (λ (token : Where V). token.value) found
  pub stepped : Step function was value left

-- The key is read, and the function is called once with what the store shows there.
pub record HasBegunTry {F V : Type 0} (m : LongMapOf)
    (Step : F → Option (Bor V) → Option V → F → Type 0) (key : ℕ) (before : SeatOf) (function : F)
    (found : Option (Where V)) (value : Option V) (after : SeatOf) (left : F) : Type 0 where
  pub got : HasGotValue m key before after (Ok found)
  pub made : HasComputed Step function found value left

-- A value is stored, and has this token; where there is none, there is no token.
abbrev pub IsStored : {V : Type 0} → Shelves → Option V → Option (Where V) → Type 0
IsStored store value (Some token) = Shows store token × (value ≡ Some token.value)
IsStored store value None = value ≡ None

-- the write that sets a key to the new value's number, or takes it out, where it has the number
-- that was found, or none
abbrev pub exchange_for : {V : Type 0} → (key : ℕ) → (found new : Option (Where V)) → Call
exchange_for key found new = exchange_of key (number_of found) (number_of new)

-- One try: the key is read, the function is called once with what was found, what it answers is
-- stored, and its number is exchanged for the one that was found, with one try.
pub record HasTriedOnce {F V : Type 0} (m : LongMapOf)
    (Step : F → Option (Bor V) → Option V → F → Type 0) (key : ℕ) (before : SeatOf) (function : F)
    (found new : Option (Where V)) (after : SeatOf) (left : F) (outcome : Outcome) :
    Type 0 where
  pub read : SeatOf
  pub value : Option V
  pub asked : HasBegunTry m Step key before function found value read left
  pub stored : IsStored m.store value new
  pub wrote : HasWritten m.map (exchange_for key found new) read after (Tries 1) outcome

-- The exchange is lost: something else was at the key by then, or other seats came first.
abbrev pub IsLost : Outcome → Type 0
IsLost (Replied reply) = reply.matched ≡ false
IsLost (Refused refusal) = refusal ≡ put_fault.Contended
IsLost (Found number) = ⊥
IsLost (Matched held) = ⊥

-- ---- the tries of an update

-- The tries that an update has lost, one after another, and the calls that were asked for in them,
-- the newest first: a read of the key, and the exchange of each try.
pub data HasLost {F V : Type 0} (m : LongMapOf) (Step : F → Option (Bor V) → Option V → F → Type 0)
    (key : ℕ) (before : SeatOf) (first : F) : List Call → SeatOf → F → Type 0 where
  Begun : HasLost m Step key before first (Get key ∷ []) before first
  Lost :
      {calls : List Call} {now : SeatOf} {function : F}
      → HasLost m Step key before first calls now function
      → (found new : Option (Where V)) (after : SeatOf) (left : F) (outcome : Outcome)
      → HasTriedOnce m Step key now function found new after left outcome → IsLost outcome
      → HasLost m Step key before first (exchange_for key found new ∷ calls) after left

-- the exchange of these, with the reply where it is won
abbrev pub won_exchange : {V : Type 0} → (key : ℕ) → (found new : Option (Where V)) → Call × Reply
won_exchange key found new =
    (exchange_for key found new, record { before = number_of found; matched = true })

-- How the last try ends, which begins at `begun`. Its exchange is won, and is the update's last
-- call. Or the value that the function answers isn't stored, and the last call is the read of what
-- it was called with. Or the key had none, and the exchange is refused as full. Or the store didn't
-- show what was read. The calls before the last one have changed nothing.
abbrev pub IsLastTry :
    {F V : Type 0} → LongMapOf → (F → Option (Bor V) → Option V → F → Type 0) → (key : ℕ)
    → (before begun : SeatOf) → (function : F) → (after : SeatOf) → (left : F)
    → Result (Updated V) (UpdateFault V) → Type 0
IsLastTry m Step key before begun function after left (Ok updated) =
    HasMadeLast key (won_exchange key updated.found updated.new) before after
    × HasTriedOnce m Step key begun function updated.found updated.new after left
    (Replied (record { before = number_of updated.found; matched = true }))
IsLastTry m Step key before begun function after left (Err (fault.OutOfMemory value)) =
    (found : Option (Where _))
    × HasMadeLast key (read_that_found key (number_of found)) before after
    × HasBegunTry m Step key begun function found (Some value) after left
IsLastTry m Step key before begun function after left (Err (fault.ValueRange placed)) =
    (found : Option (Where _))
    × HasMadeLast key (read_that_found key (number_of found)) before after
    × HasBegunTry m Step key begun function found (Some placed.value) after left
    × Shows m.store placed × (VALUE_MAX < placed.index)
IsLastTry m Step key before begun function after left (Err (fault.Full receipt)) =
    HasMadeLast key (read_that_found key None) before after
    × HasTriedOnce m Step key begun function None (Some receipt) after left
    (Refused put_fault.Full)
IsLastTry {F} {V} m Step key before begun function after left (Err fault.Unshown) =
    (n : ℕ) × HasMadeLast key (read_that_found key (Some n)) before after
    × ((unshown : Unshown) × HasGotValue {V = V} m key begun after (Err unshown))

-- the calls that were asked for: these, and the last exchange
abbrev pub calls_asked :
    {V : Type 0} → (key : ℕ) → List Call → Result (Updated V) (UpdateFault V) → List Call
calls_asked key calls (Ok updated) = exchange_for key updated.found updated.new ∷ calls
calls_asked key calls (Err (fault.OutOfMemory value)) = calls
calls_asked key calls (Err (fault.ValueRange placed)) = calls
calls_asked key calls (Err (fault.Full receipt)) = exchange_for key None (Some receipt) ∷ calls
calls_asked key calls (Err fault.Unshown) = calls

-- The update is lock-free: it has taken no more steps than a round takes for each exchange that
-- other seats have won on its key meanwhile, and one round more. All that its steps did one of the
-- calls that it asked for may do. So a slot is claimed for a key that has none in the table below
-- only if this call puts a number at an absent key. On the counter it has made one step at most.
pub record IsLockFreeAs (m : LongMapOf) (key : ℕ) (calls : List Call) (before after : SeatOf) :
    Type 0 where
  pub call : Call
  pub asked : Contains calls call
  pub worked : HasWorked m.map call before after
      ((passed_on key before after + 1) * round_steps m.map.chain.shape)

-- what the answer hands out to read values by reads the store
abbrev pub AreShown : {V : Type 0} → Shelves → Result (Updated V) (UpdateFault V) → Type 0
AreShown store (Ok updated) =
    IfSome updated.found (λ (token : Where _). Shows store token)
    × IfSome updated.new (λ (token : Where _). Shows store token)
AreShown store (Err (fault.OutOfMemory value)) = Unit {0}
AreShown store (Err (fault.ValueRange placed)) = Shows store placed
AreShown store (Err (fault.Full receipt)) = Shows store receipt
AreShown store (Err fault.Unshown) = Unit {0}

-- what `update` promises, of a function with these steps
pub record HasUpdated {F V : Type 0} (m : LongMapOf)
    (Step : F → Option (Bor V) → Option V → F → Type 0) (first : F) (key : ℕ)
    (before after : SeatOf) (result : Result (Updated V) (UpdateFault V)) : Type 0 where
  -- it has lost some tries, if any
  pub calls : List Call
  pub begun : SeatOf
  pub function : F
  pub lost : HasLost m Step key before first calls begun function
  -- other seats have won as many exchanges on the key meanwhile (the read is one of the calls)
  pub few : length calls ≤ passed_on key before begun + 1
  -- then it has made the last one
  pub left : F
  pub ended : IsLastTry m Step key before begun function after left result
  pub shown : AreShown m.store result
  -- the steps of all of them
  pub lock_free : IsLockFreeAs m key (calls_asked key calls result) before after
  pub own : IsMine m.map after

-- ---- inside a try

-- What a try promises, which answers none where its exchange is lost.
abbrev pub HasEndedTry :
    {F V : Type 0} → LongMapOf → (F → Option (Bor V) → Option V → F → Type 0) → (key : ℕ)
    → (before : SeatOf) → (function : F) → (after : SeatOf) → (left : F)
    → Result (Option (Updated V)) (UpdateFault V) → Type 0
HasEndedTry m Step key before function after left (Ok (Some updated)) =
    IsLastTry m Step key before before function after left (Ok updated)
HasEndedTry m Step key before function after left (Ok None) =
    (found : Option (Where _)) × (new : Option (Where _)) × (outcome : Outcome)
    × HasTriedOnce m Step key before function found new after left outcome × IsLost outcome
HasEndedTry m Step key before function after left (Err refusal) =
    IsLastTry m Step key before before function after left (Err refusal)

-- What its exchange promises.
abbrev pub HasExchanged :
    {V : Type 0} → LongMapOf → (key : ℕ) → (found new : Option (Where V))
    → (before after : SeatOf) → Result (Option (Updated V)) (UpdateFault V) → Type 0
HasExchanged m key found new before after (Ok (Some updated)) =
    (updated ≡ record { found = found; new = new })
    × HasWritten m.map (exchange_for key found new) before after (Tries 1)
    (Replied (record { before = number_of found; matched = true }))
HasExchanged m key found new before after (Ok None) =
    (outcome : Outcome)
    × HasWritten m.map (exchange_for key found new) before after (Tries 1) outcome × IsLost outcome
HasExchanged m key found new before after (Err (fault.Full receipt)) =
    (found ≡ None) × (new ≡ Some receipt)
    × HasWritten m.map (exchange_for key found new) before after (Tries 1) (Refused put_fault.Full)
HasExchanged m key found new before after (Err (fault.OutOfMemory value)) = ⊥
HasExchanged m key found new before after (Err (fault.ValueRange placed)) = ⊥
HasExchanged m key found new before after (Err fault.Unshown) = ⊥
