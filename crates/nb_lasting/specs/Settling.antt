-- How all guests settle: one token takes all lanes, in the place of each guest, and gives them back
-- so.
use Rattle.std.specs.Prelude.{◌≡◌, ◌<◌, ◌≤◌, ℕ, List, Option, Some, length, slice_get}
use Rattle.atomic_table.specs.Table.{Me}
use Rattle.nb_core.specs.Log.{Entry, log_of}
use Rattle.nb_core.specs.declared.events.Event.{Event}
use Rattle.nb_map.specs.Handles.{HandleOf}
use Rattle.nb_lasting.specs.Closing.{HasGathered}
use Rattle.nb_lasting.specs.Guests.{GuestOf, with_log}
use Rattle.nb_lasting.specs.Renewal.{AreHeld, HoldsBelow, blanks, down}
use Rattle.nb_lasting.specs.declared.shared.LaneView.{LaneView}

-- the handle of the guest's lane is gathered, and knows all that the guest had seen
abbrev pub HasLent :
    (guest : GuestOf) → (before : Me (Option HandleOf) LaneView) → (handles : List HandleOf)
    → (after : Me (Option HandleOf) LaneView) → (more : List HandleOf) → Type 0
HasLent guest before handles after more =
    (seen : List Event) × (log_of seen ≡ guest.log)
    × ((holds : HoldsBelow guest.number before handles)
    → HasGathered guest.number seen holds.knew after more)

-- The token has the handles of the lanes below a number still, each of which knows this log.
pub record CanSettle (whole : List Entry) (n : ℕ) (me : Me (Option HandleOf) LaneView)
    (handles : List HandleOf) : Type 0 where
  pub knew : ℕ → List Event
  pub know : ℕ → List Event
  pub outs : me.0.outs ≡ down knew n
  pub slots : me.1 ≡ blanks n
  pub held : AreHeld me.0.map me.0.filled me.0.past n know handles
  pub one : (i : ℕ) → i < n → log_of (know i) ≡ whole

-- The guests from this place on know this log, and the others are as before.
pub record KnowFrom (n : ℕ) (whole : List Entry) (before after : List GuestOf) : Type 0 where
  pub count : length after ≡ length before
  pub below :
      (i : ℕ) (guest : GuestOf) → i < n → slice_get before i ≡ Some guest
      → slice_get after i ≡ Some guest
  pub from :
      (i : ℕ) (guest : GuestOf) → n ≤ i → slice_get before i ≡ Some guest
      → slice_get after i ≡ Some (with_log whole guest)
