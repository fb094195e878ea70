-- A map without an end that guests share, each in a thread of its own: what their calls promise,
-- and what holds at its end. It is told in words of calls, and of the handles that they take.
use Rattle.std.specs.FinMap as numbers
use Rattle.std.specs.Prelude.{◌≡◌, ◌≢◌, ◌<◌, ◌*◌, ◌-◌, ◌∷◌, ◌++◌, ◌⊎◌, ℕ, zero, suc, Bool, IsTrue, Result, List, [], All, Option, Some, cond, is_some, length, map, slice_get}
use Rattle.nb_core.specs.Log.{Entry, IsReplayed, Numbers, calls_of, map_of_log}
use Rattle.nb_core.specs.declared.calls.Call.{Call}
use Rattle.nb_core.specs.declared.calls.Reply.{Reply}
use Rattle.nb_map.specs.Ending.{EndedOf, map_left}
use Rattle.nb_map.specs.Fullness.{HasSampled}
use Rattle.nb_map.specs.Promises.{HasGot}
use Rattle.nb_map.specs.declared.faults.PutFault.{PutFault}
use Rattle.nb_map.specs.declared.occupancy.Occupancy.{Occupancy}
use Rattle.nb_lasting.specs.Epochs.{HasGoneOnBy}
use Rattle.nb_lasting.specs.Lasting.{IsRefusedFor}
use Rattle.nb_lasting.specs.Shared.{IsOfGuest}
use Rattle.nb_lasting.specs.Tries.{HasTriedOn, HasTriedAlone}
use Rattle.nb_lasting.specs.Visits.{AreBack, HasGoneRound, HasVisited, SharedOf, no_account}
use Rattle.nb_lasting.specs.declared.faults.WriteFault.{WriteFault}
use Rattle.nb_lasting.specs.declared.guest.TheConstants.{LOOK_AFTER}
use Rattle.nb_lasting.specs.declared.shared.Account.{Account}

-- A guest: the map that it is of, its number there, and the log that it knows: the calls of all
-- guests until its last call. It keeps account of each handle that it took, as that was then, and
-- of its own one each time that it gave it back, the newest first; and so of the first one that it
-- gave back each time that it made the map anew, or was refused that. So many more of its writes
-- that find no number come before the next one that looks whether the map is crowded.
pub record GuestOf : Type 0 where
  pub of : SharedOf
  pub number : ℕ
  pub log : List Entry
  pub account : Account
  pub left : ℕ

-- one that has called nothing yet
abbrev pub new_guest_of : SharedOf → (number : ℕ) → GuestOf
new_guest_of shared number =
    record { of = shared; number = number; log = []; account = no_account shared.keys; left = LOOK_AFTER }

-- ---- a guest's calls

-- The log goes on to this one. All of it is replayed, and of what is new just these calls are the
-- guest's, the newest first.
abbrev pub GoesOnTo : GuestOf → (whole : List Entry) → (made : List (Call × Reply)) → Type 0
GoesOnTo guest whole made = HasGoneOnBy guest.number guest.log whole made

-- the guest has made just these calls, the newest first
pub record GuestHasCalled (before after : GuestOf) (made : List (Call × Reply)) : Type 0 where
  pub of : after.of ≡ before.of
  pub number : after.number ≡ before.number
  pub log : GoesOnTo before after.log made

-- it has made this one call, which replies this
abbrev pub GuestHasReplied : Call → (before after : GuestOf) → Reply → Type 0
GuestHasReplied call before after reply = GuestHasCalled before after ((call, reply) ∷ [])

-- it has made this one call, which found this number at its key, or none
abbrev pub GuestHasFound : Call → (before after : GuestOf) → Option ℕ → Type 0
GuestHasFound call before after found =
    (reply : Reply) × (reply.before ≡ found) × GuestHasReplied call before after reply

-- it has made this one call, and this is whether its condition held
abbrev pub GuestHasMatched : Call → (before after : GuestOf) → Bool → Type 0
GuestHasMatched call before after matched =
    (reply : Reply) × (reply.matched ≡ matched) × GuestHasReplied call before after reply

-- It took its own handle once, for one `get` by it. So its steps have a bound, but for those of a
-- wait while its handle is out.
pub record GuestHasRead (key : ℕ) (before after : GuestOf) (found : Option ℕ) : Type 0 where
  pub visited :
      HasVisited before.number (λ there back. HasGot there.map key there.seat back.seat found)
      before.account after.account
  pub left : after.left ≡ before.left

-- It took its own handle once, for one write by it with 2^32 - 1 tries. It did no more, and has made
-- the call just where that was made; unless that was for nothing. Then it went on, until it made
-- the call by such a try, or was refused it.
pub record HasTriedUntilDone (call : Call) (before after : GuestOf) : Type 0 where
  pub outcome : Result Reply PutFault
  pub then : Account
  pub made : List (Call × Reply)
  pub first : HasTriedAlone call before.number before.account then outcome
  pub on : HasTriedOn call before.number before.of outcome then after.account made
  pub called : GuestHasCalled before after made

-- It took its own handle once, for one look by it at how full the map is, which found this.
abbrev pub HasLookedBy : (before : GuestOf) → (after : Account) → Occupancy → Type 0
HasLookedBy before after found =
    HasVisited before.number (λ there back. HasSampled there.map there.seat back.seat found)
    before.account after

-- So it did, and no more, unless more than two thirds of the last table were found taken: then it
-- took all handles once, and may have made the map anew.
pub record HasLookedInTime (before after : GuestOf) : Type 0 where
  pub found : Occupancy
  pub then : Account
  pub look : HasLookedBy before then found
  pub only :
      (after.account ≡ then)
      ⊎ (IsTrue found.is_last × (2 * found.looked < 3 * found.taken)
      × HasGoneRound before.of (AreBack before.of before.number) then after.account)

-- how many such writes come before the next look, where one that is due is made first
abbrev pub calls_left : ℕ → ℕ
calls_left zero = LOOK_AFTER
calls_left (suc n) = suc n

-- how many are left after these calls: each that found no number brings the next look nearer
abbrev pub left_with : Reply → ℕ → ℕ
left_with reply left = cond (is_some reply.before) left (left - 1)

abbrev pub left_after : List (Call × Reply) → ℕ → ℕ
left_after [] left = left
left_after ((call, reply) ∷ made) left = left_with reply (left_after made left)

-- How long a write works. It is one write by the guest's handle, unless that is for nothing. Where
-- a look is due, it looks first. That is so once 1,024 writes found no number since the last one.
pub record GuestHasWorked (call : Call) (before after : GuestOf) : Type 0 where
  pub looked : GuestOf
  pub unmade : GuestHasCalled before looked []
  pub none : before.left ≢ 0 → looked ≡ before
  pub due : before.left ≡ 0 → HasLookedInTime before looked
  pub once : HasTriedUntilDone call looked after
  pub counted :
      (made : List (Call × Reply)) → GuestHasCalled before after made
      → after.left ≡ left_after made (calls_left before.left)

-- the call is refused, for a reason that holds of the map that the log leaves, and isn't made
pub record GuestIsRefused (call : Call) (before after : GuestOf) (fault : WriteFault) :
    Type 0 where
  pub unmade : GuestHasCalled before after []
  pub why : IsRefusedFor call (map_of_log after.log) fault

-- ---- the beginning and the end

-- so many guests of a map that nobody has called yet, numbered by their places
pub record HaveCome (n : ℕ) (shared : SharedOf) (guests : List GuestOf) : Type 0 where
  pub many : shared.guests ≡ n
  pub count : length guests ≡ n
  pub of : All (λ guest. guest.of ≡ shared) guests
  pub each :
      (i : ℕ) (guest : GuestOf) → slice_get guests i ≡ Some guest
      → guest ≡ new_guest_of shared i

-- they are all guests of the map, in their order
pub record AreAllGuests (shared : SharedOf) (guests : List GuestOf) : Type 0 where
  pub count : length guests ≡ shared.guests
  pub numbered :
      (i : ℕ) (guest : GuestOf) → slice_get guests i ≡ Some guest → guest.number ≡ i

-- There is one log of all calls, and it is replayed. Each guest's log goes on to it by no call of
-- that guest, and each entry is one guest's. The map that it leaves is what is left.
pub record HaveEnded (guests : List GuestOf) (ended : EndedOf) : Type 0 where
  pub whole : List Entry
  pub replayed : IsReplayed whole
  pub leaves : map_left ended ≡ map_of_log whole
  pub each :
      (i : ℕ) (guest : GuestOf) → slice_get guests i ≡ Some guest → GoesOnTo guest whole []
  pub made : All (IsOfGuest (length guests)) whole

-- the guest, which knows this log
abbrev pub with_log : List Entry → GuestOf → GuestOf
with_log whole guest = record guest { log = whole }

-- There is one log of all calls until now, and it is replayed. Each guest's log goes on to it by no
-- call of that guest, and is this log from now on. Each entry is one guest's. The map that it
-- leaves has so many keys.
pub record GuestsHaveSettled (before after : List GuestOf) (size : ℕ) : Type 0 where
  pub whole : List Entry
  pub replayed : IsReplayed whole
  pub each :
      (i : ℕ) (guest : GuestOf) → slice_get before i ≡ Some guest → GoesOnTo guest whole []
  pub know : after ≡ map (with_log whole) before
  pub made : All (IsOfGuest (length before)) whole
  pub keys : size ≡ length (numbers.entries (map_of_log whole))

-- ---- the laws

-- what a guest has called adds up
abbrev pub CallsAddUp : Type 0
CallsAddUp =
    (first middle last : GuestOf) (made later : List (Call × Reply))
    → GuestHasCalled first middle made → GuestHasCalled middle last later
    → GuestHasCalled first last (later ++ made)

-- each guest has made these calls since it came, the newest first
pub record HaveCalled (n : ℕ) (new last : List GuestOf) (made : ℕ → List (Call × Reply)) :
    Type 0 where
  pub count : length last ≡ n
  pub each :
      (i : ℕ) (first guest : GuestOf) → slice_get new i ≡ Some first → slice_get last i ≡ Some guest
      → GuestHasCalled first guest (made i)

-- There is one log of just these calls of the guests: each guest's, each once, in its order. It is
-- replayed, and leaves this map.
abbrev pub IsOneLogOf : (n : ℕ) → (made : ℕ → List (Call × Reply)) → Numbers → Type 0
IsOneLogOf n made content =
    (log : List Entry) × IsReplayed log × (content ≡ map_of_log log)
    × ((i : ℕ) → i < n → calls_of i log ≡ made i) × All (IsOfGuest n) log

-- whatever calls the guests have made of a map from its beginning to its end
abbrev pub OneLogOfGuests : Type 0
OneLogOfGuests =
    (n : ℕ) (shared : SharedOf) (new last : List GuestOf) (ended : EndedOf)
    (made : ℕ → List (Call × Reply)) → HaveCome n shared new → HaveCalled n new last made
    → HaveEnded last ended → IsOneLogOf n made (map_left ended)

-- The same whenever they settle, with the size of the map that the log leaves; and by that they
-- have called nothing.
abbrev pub OneLogSoFar : Type 0
OneLogSoFar =
    (n : ℕ) (shared : SharedOf) (new last settled : List GuestOf) (size : ℕ)
    (made : ℕ → List (Call × Reply)) → HaveCome n shared new → HaveCalled n new last made
    → GuestsHaveSettled last settled size
    → ((content : Numbers) × (size ≡ length (numbers.entries content)) × IsOneLogOf n made content)
    × HaveCalled n new settled made
