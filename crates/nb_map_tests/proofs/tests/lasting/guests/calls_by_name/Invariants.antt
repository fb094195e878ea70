use Rattle.std.proofs.Common.{◌≡◌}
use Rattle.nb_map_tests.proofs.tests.lasting.guests.calls_by_name.Given as goal

abbrev pub invariant-loop-call : goal.invariant-loop-call
invariant-loop-call g l = l.guest.of ≡ l.fn.guest.of
