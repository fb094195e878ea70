-- How often a token takes handles, and what is done by them. It keeps account of each that it took,
-- as that was then; of its guest's own one each time that the guest gave it back; and of the first
-- one that it gave back each time that it made the map anew, or was refused that.
use Rattle.std.specs.FinMap as numbers
use Rattle.std.specs.Prelude.{◌≡◌, ◌*◌, ◌∷◌, ◌⊎◌, [], ℕ, All, List, Some, length, map, max, slice_get}
use Rattle.atomic_table.specs.Seated.{TableId}
use Rattle.nb_core.specs.Log.{Numbers, map_of_log}
use Rattle.nb_map.specs.Bulk.{put_entry}
use Rattle.nb_map.specs.Crowding.{HasAskedFor}
use Rattle.nb_map.specs.Handles.{HandleOf}
use Rattle.nb_map.specs.Logs.{log}
use Rattle.nb_map.specs.Maps.{MapOf, SeatOf}
use Rattle.nb_map.specs.Settling.{HaveSettled}
use Rattle.nb_lasting.specs.Lasting.{HasSlots, shape_made_for}
use Rattle.nb_lasting.specs.declared.shapes.TheConstants.{LEAST_ANEW}
use Rattle.nb_lasting.specs.declared.shared.Account.{Account}

-- A map that guests share: which one it is, how many guests it has, and for how many keys it was
-- opened.
pub record SharedOf : Type 0 where
  pub id : TableId
  pub guests : ℕ
  pub keys : ℕ

-- for how many keys it is made anew at least
abbrev pub least_anew : SharedOf → ℕ
least_anew of = max of.keys LEAST_ANEW

-- nothing yet, of a map that was opened for so many keys
abbrev pub no_account : ℕ → Account
no_account keys = record { keys = keys; taken = []; returned = []; begun = [] }

-- the account after this handle was taken
abbrev pub took : HandleOf → Account → Account
took handle account = record account { taken = handle ∷ account.taken }

-- the same after a guest gave this one back
abbrev pub gave : HandleOf → Account → Account
gave handle account = record account { returned = handle ∷ account.returned }

-- the same after it gave this one back first, of a map that it had made anew, or was to
abbrev pub began : HandleOf → Account → Account
began handle account = record account { begun = handle ∷ account.begun }

-- A guest took the handle of its own lane once, by which this was done, and gave it back. It took
-- no other. The map that was there has slots for as many keys as it was opened for.
pub record HasVisited (lane : ℕ) (did : (there back : HandleOf) → Type 0)
    (before after : Account) : Type 0 where
  pub there : HandleOf
  pub back : HandleOf
  pub own : there.seat.chain.number ≡ lane
  pub room : HasSlots before.keys there.map.chain.shape
  pub account : after ≡ gave back (took there before)
  pub done : did there back

-- these handles were taken, one after the other
abbrev pub took_all : List HandleOf → Account → Account
took_all [] account = account
took_all (handle ∷ handles) account = took_all handles (took handle account)

-- The token took the handles of all guests: these, in their order.
pub record HasTakenAll (of : SharedOf) (handles : List HandleOf) (before after : Account) :
    Type 0 where
  pub count : length handles ≡ of.guests
  pub numbered :
      (i : ℕ) (handle : HandleOf) → slice_get handles i ≡ Some handle
      → handle.seat.chain.number ≡ i
  pub account : after ≡ took_all handles before

-- the map, and how many keys it has, as the handle's seat knows it
abbrev pub content_known : HandleOf → Numbers
content_known handle = map_of_log (log handle.seat)

abbrev pub keys_known : HandleOf → ℕ
keys_known handle = length (numbers.entries (content_known handle))

-- the handle's seat has claimed slots for the keys of the map alone, as one of a new map has
abbrev pub HasClaimedForItsKeys : HandleOf → Type 0
HasClaimedForItsKeys handle =
    HasAskedFor handle.map.chain.shape (map put_entry (numbers.entries (content_known handle)))
    handle.seat.chain

-- It made the map anew: what it gave back first is a handle of a new one, of the shape for twice the
-- keys, and for as many as it is made anew for at least. So it has slots for these.
pub record HasMadeMapAnew (of : SharedOf) (before after : Account) : Type 0 where
  pub first : HandleOf
  pub account : after ≡ began first before
  pub room : HasSlots (max (2 * keys_known first) (least_anew of)) first.map.chain.shape
  pub shape :
      first.map.chain.shape ≡ shape_made_for (max (2 * keys_known first) (least_anew of)) of.guests
  pub claimed : HasClaimedForItsKeys first

-- All handles that it took are home, its own one by its guest, which may have seen more. That is
-- of the same map.
pub record AreBackSeen (lane : ℕ) (handles : List HandleOf) (before after : Account) : Type 0 where
  pub there : HandleOf
  pub back : HandleOf
  pub own : slice_get handles lane ≡ Some there
  pub same : back.map ≡ there.map
  pub number : back.seat.chain.number ≡ lane
  pub account : after ≡ gave back before

-- The map was to be made anew, which was refused: what it gave back first is of the same map.
pub record HasBegunAgain (handles : List HandleOf) (before after : Account) : Type 0 where
  pub first : HandleOf
  pub same : All (λ handle. handle.map ≡ first.map) handles
  pub account : after ≡ began first before

-- They are home, of the same map: as they were; or as one of these two says.
abbrev pub AreBackStill : (lane : ℕ) → List HandleOf → (before after : Account) → Type 0
AreBackStill lane handles before after =
    (after ≡ before) ⊎ AreBackSeen lane handles before after ⊎ HasBegunAgain handles before after

-- They are home so, or the map was made anew.
abbrev pub AreBack : SharedOf → (lane : ℕ) → List HandleOf → (before after : Account) → Type 0
AreBack of lane handles before after =
    AreBackStill lane handles before after ⊎ HasMadeMapAnew of before after

-- It took all handles once, and they are home so; or it did nothing.
abbrev pub HasGoneRound :
    SharedOf → (Back : List HandleOf → (before after : Account) → Type 0)
    → (before after : Account) → Type 0
HasGoneRound of Back before after =
    (after ≡ before)
    ⊎ ((handles : List HandleOf) × (then : Account) × HasTakenAll of handles before then
    × Back handles then after)

-- It took all handles once, and counted the map by them: their seats settled, and know the one log
-- of all calls then, which leaves so many keys. They are home so.
pub record HasCountedByAll (lane : ℕ) (of : SharedOf) (before after : Account) (size : ℕ) :
    Type 0 where
  pub handles : List HandleOf
  pub then : Account
  pub taken : HasTakenAll of handles before then
  pub counted : MapOf
  pub seats : List SeatOf
  pub settled : HaveSettled counted (map (λ handle. handle.seat) handles) seats size
  pub back : HandleOf
  pub own : slice_get seats lane ≡ Some back.seat
  pub account : after ≡ gave back then
