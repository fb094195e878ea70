use Rattle.std.proofs.Common.{◌≡◌, ◌≤◌, length, vec_capacity}
use Rattle.nb_lasting.specs.Renewal.{HoldsBelow, IsSameGuest}
use Rattle.nb_lasting.specs.Shared.{FitsLanes}
use Rattle.nb_lasting.specs.Visits.{took_all}
use Rattle.nb_lasting.proofs.renewing.take_all_handles.Given as goal

abbrev pub invariant-loop-lane : goal.invariant-loop-lane
invariant-loop-lane g l = record {
  table : l.token.table_id ≡ l.fn.token.table_id;
  guest : IsSameGuest l.fn.token.me.0 l.token.me.0;
  account : l.token.me.0.account ≡ took_all l.handles.items l.fn.token.me.0.account;
  room : l.fn.hall.table.shared.key.seats ≤ vec_capacity l.handles;
  count : length l.handles.items ≡ l.lane;
  seated : 1 ≤ l.lane → FitsLanes l.fn.hall.table.shared.key.seats l.token.me.0;
  holds : HoldsBelow l.lane l.token.me l.handles.items;
}
