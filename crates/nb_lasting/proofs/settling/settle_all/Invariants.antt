use Rattle.std.proofs.Common.{◌≡◌, ◌+◌, List, length}
use Rattle.nb_core.specs.Log.{Entry}
use Rattle.nb_lasting.specs.Settling.{CanSettle, KnowFrom}
use Rattle.nb_lasting.proofs.settling.settle_all.Given as goal

abbrev pub invariant-loop-done : goal.invariant-loop-done
invariant-loop-done l = record {
  table : l.token.table_id ≡ l.fn.token.table_id;
  count : length l.handles.items + l.done ≡ length l.fn.guests;
  settled : (whole : List Entry)
      → CanSettle whole (length l.fn.guests) l.fn.token.me l.fn.handles.items
      → CanSettle whole (length l.handles.items) l.token.me l.handles.items
      × KnowFrom (length l.handles.items) whole l.fn.guests l.guests;
}
