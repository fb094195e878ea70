use Rattle.std.proofs.Common.{◌≡◌, ◌≤◌, [], All, Some, vec_capacity}
use Rattle.std.specs.Arc.{arc_value}
use Rattle.nb_lasting.specs.Closing.{AreNew}
use Rattle.nb_lasting.specs.inside.Guests.{hall_of}
use Rattle.nb_lasting.proofs.shared_lasting.invited.Given as goal

abbrev pub invariant-loop-lane : goal.invariant-loop-lane
invariant-loop-lane l = record {
  table : l.token.table_id ≡ l.fn.token.table_id;
  deals : l.token.me.0.dealer ≡ Some l.lane;
  keys : l.token.me.0.account.keys ≡ (arc_value l.fn.hall).table.shared.key.keys;
  outs : l.token.me.0.outs ≡ [];
  slots : l.token.me.1 ≡ [];
  room : l.fn.guests ≤ vec_capacity l.made;
  of : All (λ guest. guest.of ≡ hall_of (arc_value l.fn.hall)) l.made.items;
  come : AreNew l.lane (hall_of (arc_value l.fn.hall)) l.made.items;
}
