use Rattle.std.proofs.Common.{◌≡◌, ◌≤◌, drop, length, vec_capacity}
use Rattle.nb_lasting.specs.Closing.{HaveComeTo}
use Rattle.nb_lasting.specs.Shared.{FitsLanes}
use Rattle.nb_lasting.proofs.settling.lend_all.Given as goal

abbrev pub invariant-loop-i : goal.invariant-loop-i
invariant-loop-i g l = record {
  table : l.token.table_id ≡ l.fn.token.table_id;
  same : l.guests ≡ l.fn.guests;
  room : length l.fn.guests ≤ vec_capacity l.handles;
  count : length l.handles.items ≡ l.i;
  seated : 1 ≤ l.i → FitsLanes l.fn.hall.table.shared.key.seats l.token.me.0;
  come : HaveComeTo l.fn.guests (drop l.i l.fn.guests) l.token.me l.handles.items;
}
