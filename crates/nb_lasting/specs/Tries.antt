-- How a guest's write goes on where a try of it was for nothing, in words of the handles that it takes.
use Rattle.std.specs.Prelude.{◌≡◌, ◌≢◌, ◌-◌, ◌^◌, ℕ, Err, Ok, Result, List, [], Some, slice_get}
use Rattle.nb_core.specs.declared.calls.Call.{Call}
use Rattle.nb_core.specs.declared.calls.Reply.{Reply}
use Rattle.nb_map.specs.Handles.{HandleOf}
use Rattle.nb_map.specs.Logs.{made_in}
use Rattle.nb_map.specs.Progress.{Tries}
use Rattle.nb_map.specs.Promises.{HasWritten, replied_or_refused}
use Rattle.nb_map.specs.declared.faults.PutFault.TheVariants as put_fault
use Rattle.nb_map.specs.declared.faults.PutFault.{PutFault}
use Rattle.nb_lasting.specs.Visits.{AreBackStill, HasGoneRound, HasMadeMapAnew, HasTakenAll, HasVisited, SharedOf, gave}
use Rattle.nb_lasting.specs.declared.shared.Account.{Account}

-- a write by a handle with 2^32 - 1 tries, of which this came
abbrev pub IsTry : Call → Result Reply PutFault → (there back : HandleOf) → Type 0
IsTry call outcome there back =
    HasWritten there.map call there.seat back.seat (Tries (2 ^ 32 - 1)) (replied_or_refused outcome)

-- A guest took its own handle once, for one such write.
abbrev pub HasTriedAlone :
    Call → (lane : ℕ) → (before after : Account) → Result Reply PutFault → Type 0
HasTriedAlone call lane before after outcome = HasVisited lane (IsTry call outcome) before after

-- It took all handles, made one such write by its own one of these, and gave it back.
pub record HasTriedWithAll (call : Call) (lane : ℕ) (of : SharedOf) (before after : Account)
    (outcome : Result Reply PutFault) : Type 0 where
  pub handles : List HandleOf
  pub then : Account
  pub taken : HasTakenAll of handles before then
  pub there : HandleOf
  pub back : HandleOf
  pub own : slice_get handles lane ≡ Some there
  pub account : after ≡ gave back then
  pub done : IsTry call outcome there back

-- It took all handles, and made the map anew.
pub record HasMadeRoom (of : SharedOf) (before after : Account) : Type 0 where
  pub handles : List HandleOf
  pub then : Account
  pub taken : HasTakenAll of handles before then
  pub anew : HasMadeMapAnew of then after

-- a try was for nothing: it found the map full, or others came first each time
abbrev pub IsUndone : Result Reply PutFault → Type 0
IsUndone (Ok reply) = ⊥
IsUndone (Err put_fault.ValueRange) = ⊥
IsUndone (Err put_fault.Full) = Unit {0}
IsUndone (Err put_fault.Contended) = Unit {0}

-- What a write does after a try of which this came, and which calls it has made by then. That was
-- all, unless it was for nothing. Where others came first, it tries again. Where the map was full,
-- it takes all handles; then it tries again by its own one of these, or else makes the map anew
-- before it tries again. Or it is refused room, and has taken all handles once more at most.
pub data HasTriedOn (call : Call) (lane : ℕ) (of : SharedOf) :
    Result Reply PutFault → (before after : Account) → (made : List (Call × Reply)) →
    Type 0 where
  Done :
      {outcome : Result Reply PutFault} {account : Account} → (IsUndone outcome → ⊥)
      → HasTriedOn call lane of outcome account account (made_in call outcome)
  Again :
      {outcome : Result Reply PutFault} {before then after : Account} {made : List (Call × Reply)}
      → HasTriedAlone call lane before then outcome
      → HasTriedOn call lane of outcome then after made
      → HasTriedOn call lane of (Err put_fault.Contended) before after made
  WithAll :
      {outcome : Result Reply PutFault} {before then after : Account} {made : List (Call × Reply)}
      → HasTriedWithAll call lane of before then outcome → outcome ≢ Err put_fault.Full
      → HasTriedOn call lane of outcome then after made
      → HasTriedOn call lane of (Err put_fault.Full) before after made
  Anew :
      {outcome : Result Reply PutFault} {before new then after : Account}
      {made : List (Call × Reply)} → HasMadeRoom of before new
      → HasTriedAlone call lane new then outcome → HasTriedOn call lane of outcome then after made
      → HasTriedOn call lane of (Err put_fault.Full) before after made
  NoRoom :
      {before after : Account} → HasGoneRound of (AreBackStill lane) before after
      → HasTriedOn call lane of (Err put_fault.Full) before after []
