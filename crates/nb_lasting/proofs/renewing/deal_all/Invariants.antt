use Rattle.std.proofs.Common.{◌≡◌, ◌+◌, length}
use Rattle.nb_lasting.specs.Renewal.{CanDealBelow, IsSameGuest}
use Rattle.nb_lasting.proofs.renewing.deal_all.Given as goal

abbrev pub invariant-loop-done : goal.invariant-loop-done
invariant-loop-done l = record {
  table : l.token.table_id ≡ l.fn.token.table_id;
  guest : IsSameGuest l.fn.token.me.0 l.token.me.0;
  account : l.token.me.0.account ≡ l.fn.token.me.0.account;
  map : l.token.me.0.map ≡ l.fn.token.me.0.map;
  count : length l.handles.items + l.done ≡ length l.fn.handles.items;
  holds : CanDealBelow (length l.handles.items) l.token.me l.handles.items;
}
