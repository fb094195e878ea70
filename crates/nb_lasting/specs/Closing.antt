-- How the end of a map that guests share gathers all lanes: the closer takes the place of each
-- guest, and its lane's handle.
use Rattle.std.specs.Prelude.{◌≡◌, ◌<◌, ◌+◌, ◌++◌, ℕ, List, [], All, Option, Some, length, slice_get}
use Rattle.atomic_table.specs.Seated.{TableId}
use Rattle.atomic_table.specs.Table.{Me}
use Rattle.nb_core.specs.declared.events.Event.{Event}
use Rattle.nb_map.specs.Handles.{HandleOf}
use Rattle.nb_lasting.specs.Guests.{GoesOnTo, GuestOf, new_guest_of}
use Rattle.nb_core.specs.Log.{log_of}
use Rattle.nb_lasting.specs.Renewal.{HoldsBelow}
use Rattle.nb_lasting.specs.Shared.{IsCurrent}
use Rattle.nb_lasting.specs.Visits.{SharedOf}
use Rattle.nb_lasting.specs.declared.shared.LaneView.{LaneView}

-- One more lane's handle is gathered, which knows all that the lane's guest had seen. What the
-- others knew is as before.
pub record HasGathered (lane : ℕ) (seen : List Event) (knew : ℕ → List Event)
    (me : Me (Option HandleOf) LaneView) (handles : List HandleOf) : Type 0 where
  pub holds : HoldsBelow (lane + 1) me handles
  pub here : IsCurrent lane seen (holds.knew lane)
  pub below : (i : ℕ) → i < lane → holds.knew i ≡ knew i

-- The handles of the lanes below a number are gathered, each of which knows all that its guest had
-- seen.
pub record HaveGathered (n : ℕ) (guests : List GuestOf) (me : Me (Option HandleOf) LaneView)
    (handles : List HandleOf) : Type 0 where
  pub holds : HoldsBelow n me handles
  pub current :
      (i : ℕ) (guest : GuestOf) → slice_get guests i ≡ Some guest
      → (guest.number ≡ i) × GoesOnTo guest (log_of (holds.knew i)) []

-- these are so many guests of one map, in their order
pub record AreAllOf (id : TableId) (n : ℕ) (guests : List GuestOf) : Type 0 where
  pub of : All (λ guest. guest.of.id ≡ id) guests
  pub count : length guests ≡ n
  pub numbered :
      (i : ℕ) (guest : GuestOf) → slice_get guests i ≡ Some guest → guest.number ≡ i

-- these are so many new guests of one map, numbered by their places
pub record AreNew (n : ℕ) (of : SharedOf) (guests : List GuestOf) : Type 0 where
  pub count : length guests ≡ n
  pub each :
      (i : ℕ) (guest : GuestOf) → slice_get guests i ≡ Some guest
      → guest ≡ new_guest_of of i

-- Some of all guests are done, whose handles are gathered; these are left.
pub record HaveComeTo (all left : List GuestOf) (me : Me (Option HandleOf) LaneView)
    (handles : List HandleOf) : Type 0 where
  pub done : List GuestOf
  pub parts : all ≡ done ++ left
  pub count : length handles ≡ length done
  pub gathered : HaveGathered (length done) done me handles
