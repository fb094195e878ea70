use Rattle.std.proofs.Common.{◌≤◌, length, vec_capacity}
use Rattle.nb_map.specs.Handles.{seats_of}
use Rattle.nb_lasting.proofs.Joined.{ArePartedFrom}
use Rattle.nb_lasting.proofs.gathered.split_handle.Given as goal

abbrev pub invariant-loop : goal.invariant-loop
invariant-loop g l =
    (goal.iterator-loop g).can_next l.iterator' × (goal.iterator-loop g).is_finite l.iterator'
    × ArePartedFrom l.fn.whole l.handle l.handles.items
    × (length (seats_of l.fn.whole) ≤ vec_capacity l.handles)
