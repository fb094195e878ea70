-- What is in a guest, and in a map that guests share, and what their private calls promise.
use Rattle.std.specs.Arc.{arc_value}
use Rattle.std.specs.Prelude.{ℕ, ◌≡◌, ◌≢◌, ◌<◌, ◌≤◌, [], true, Err, Ok, Option, None, Some, Result, vec_capacity}
use Rattle.nb_core.specs.Calls.{overflows}
use Rattle.nb_core.specs.Log.{IsReplayed, Numbers, log_of}
use Rattle.nb_core.specs.declared.calls.Call.{Call}
use Rattle.nb_core.specs.declared.calls.Reply.{Reply}
use Rattle.nb_map.specs.declared.faults.PutFault.{PutFault}
use Rattle.nb_lasting.specs.Guests.{GuestHasCalled, GuestHasReplied, HasTriedUntilDone, GuestIsRefused, GuestOf}
use Rattle.nb_lasting.specs.Holding.{CanGoOn, IsIdleGuest, IsJustIn}
use Rattle.nb_lasting.specs.Renewal.{IsIdleToken}
use Rattle.nb_lasting.specs.Tries.{HasTriedAlone}
use Rattle.nb_lasting.specs.declared.faults.WriteFault.{WriteFault}
use Rattle.nb_lasting.specs.Visits.{SharedOf}
use Rattle.nb_lasting.specs.declared.guest.Guest.TheInside as guest
use Rattle.nb_lasting.specs.declared.hall.Hall.{Hall}
use Rattle.nb_lasting.specs.declared.shared.Account.{Account}
use Rattle.nb_lasting.specs.declared.shared_lasting.SharedLasting.TheInside as shared

-- the map of a hall, as contracts see it
abbrev pub hall_of : Hall → SharedOf
hall_of hall = record {
  id = hall.table.shared.table_id;
  guests = hall.table.shared.key.seats;
  keys = hall.table.shared.key.keys;
}

-- the guest, as contracts see it
abbrev pub guest_of : guest.Inside → GuestOf
guest_of c = record {
  of = hall_of (arc_value c.hall);
  number = c.lane;
  log = log_of c.token.me.0.seen;
  account = c.token.me.0.account;
  left = c.left;
}

-- its token is of the table, and has no handle out; and what it knows is replayed
pub record IsGuest (c : guest.Inside) : Type 0 where
  pub table : c.token.table_id ≡ (arc_value c.hall).table.shared.table_id
  pub lane : c.lane < (arc_value c.hall).table.shared.key.seats
  pub idle : IsIdleGuest c.lane c.token.me
  pub replayed : IsReplayed (log_of c.token.me.0.seen)

-- the shared map, as contracts see it
abbrev pub shared_of : shared.Inside → SharedOf
shared_of c = hall_of (arc_value c.hall)

-- its token is of the table, and has no handle out; and there is room for all handles
pub record IsShared (c : shared.Inside) : Type 0 where
  pub table : c.token.table_id ≡ (arc_value c.hall).table.shared.table_id
  pub idle : IsIdleToken c.token.me
  pub none : c.room.items ≡ []
  pub room : (arc_value c.hall).table.shared.key.seats ≤ vec_capacity c.room

-- ---- a round of a write

-- it was made, or not yet, or is refused
abbrev pub GuestHasTried :
    Call → (before after : GuestOf) → Result (Option Reply) WriteFault → Type 0
GuestHasTried call before after (Ok None) = GuestHasCalled before after []
GuestHasTried call before after (Ok (Some reply)) = GuestHasReplied call before after reply
GuestHasTried call before after (Err fault) = GuestIsRefused call before after fault

-- its first try was for nothing, and it goes on
pub record GuestHasBegun (call : Call) (before after : GuestOf) : Type 0 where
  pub outcome : Result Reply PutFault
  pub then : Account
  pub first : HasTriedAlone call before.number before.account then outcome
  pub on : CanGoOn call before.number before.of outcome then after.account

-- so it was where it isn't made yet
abbrev pub HasTriedFirst :
    Call → (before after : GuestOf) → Result (Option Reply) WriteFault → Type 0
HasTriedFirst call before after (Ok None) = GuestHasBegun call before after
HasTriedFirst call before after (Ok (Some reply)) = HasTriedUntilDone call before after
HasTriedFirst call before after (Err fault) = HasTriedUntilDone call before after

-- the guest, with so many calls left till it looks
abbrev pub with_calls_left : ℕ → GuestOf → GuestOf
with_calls_left left guest = record guest { left = left }

-- it was made on the map that is there, or refused
abbrev pub HasWrittenHere : Call → (before after : GuestOf) → Result Reply PutFault → Type 0
HasWrittenHere call before after (Ok reply) = GuestHasReplied call before after reply
HasWrittenHere call before after (Err fault) =
    GuestHasCalled before after [] × IsJustIn call after.log fault

-- whatever the map is, the call puts no sum past the range
abbrev pub NeverOverflows : Call → Type 0
NeverOverflows call = (content : Numbers) → overflows call content ≢ true
