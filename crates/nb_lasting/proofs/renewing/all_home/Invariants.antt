use Rattle.std.proofs.Common.{◌≡◌, ◌+◌, List, length}
use Rattle.nb_core.specs.Log.{Entry}
use Rattle.nb_lasting.specs.Renewal.{CanComeHome}
use Rattle.nb_lasting.proofs.Homes.{AreLeft}
use Rattle.nb_lasting.proofs.renewing.all_home.Given as goal

abbrev pub invariant-loop-done : goal.invariant-loop-done
invariant-loop-done l = record {
  table : l.token.table_id ≡ l.fn.token.table_id;
  count : length l.handles.items + l.done ≡ length l.fn.handles.items;
  left : AreLeft l.own l.fn.handles.items l.handles.items l.fn.token.me.0.account
      l.token.me.0.account;
  holds : (whole : List Entry)
      → CanComeHome l.own whole (length l.fn.handles.items) l.fn.token.me l.fn.handles.items
      → CanComeHome l.own whole (length l.handles.items) l.token.me l.handles.items;
}
