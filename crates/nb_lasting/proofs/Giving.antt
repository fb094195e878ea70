-- What a token has to hold that gives a lane's handle back.
use Rattle.std.specs.Prelude.{◌≡◌, ◌<◌, ℕ, Option, Some, List}
use Rattle.atomic_table.specs.Table.{Me}
use Rattle.nb_core.specs.declared.events.Event.{Event}
use Rattle.nb_map.specs.Handles.{HandleOf}
use Rattle.nb_lasting.proofs.Sharing.{anew_allowed, deal_allowed, give_allowed}
use Rattle.nb_lasting.specs.Holding.{MayGive}
use Rattle.nb_lasting.specs.Shared.{Deals, EpochIn, Gives, Holds, HoldsAnew, IsCurrent, Renews}
use Rattle.nb_lasting.specs.declared.shared.LaneView.{LaneView}
use Rattle.nb_lasting.specs.declared.shared.Opened.{Opened}

-- a guest that has the handle of its own lane, whatever it has called
pub record CanGive (lane : ℕ) (me : Me (Option HandleOf) LaneView) : Type 0 where
  pub knew : List Event
  pub whole : List Event
  pub handle : HandleOf
  pub holds : Holds lane knew whole handle me
  pub guest : me.0.guest ≡ Some lane

pub may-give :
    (p : Opened) (slots lane id : ℕ) (me : Me (Option HandleOf) LaneView) → lane < p.seats
    → CanGive lane me → MayGive Gives p slots lane id me
may-give p slots lane id me within can =
    give_allowed p slots id me lane can.knew can.whole can.handle within can.holds can.guest

-- one that has a lane's handle, by which nothing was called
pub record CanDeal (lane : ℕ) (me : Me (Option HandleOf) LaneView) : Type 0 where
  pub knew : List Event
  pub whole : List Event
  pub handle : HandleOf
  pub holds : Holds lane knew whole handle me
  pub current : IsCurrent lane knew whole

pub may-deal :
    (p : Opened) (slots lane id : ℕ) (me : Me (Option HandleOf) LaneView) → lane < p.seats
    → CanDeal lane me → MayGive Deals p slots lane id me
may-deal p slots lane id me within can =
    deal_allowed p slots id me lane can.knew can.whole can.handle within can.holds can.current

-- one that has all lanes' handles, of a new map
pub record CanRenew (p : Opened) (lane : ℕ) (me : Me (Option HandleOf) LaneView) : Type 0 where
  pub knew : List Event
  pub handle : HandleOf
  pub next : EpochIn
  pub holds : HoldsAnew p lane knew handle next me

pub may-renew :
    (p : Opened) (slots lane id : ℕ) (me : Me (Option HandleOf) LaneView) → lane < p.seats
    → CanRenew p lane me → MayGive Renews p slots lane id me
may-renew p slots lane id me within can =
    anew_allowed p slots id me lane can.knew can.handle can.next within can.holds
