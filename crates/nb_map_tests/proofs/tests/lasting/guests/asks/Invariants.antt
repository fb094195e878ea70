use Rattle.std.proofs.Common.{◌≡◌}
use Rattle.nb_map_tests.proofs.tests.lasting.guests.asks.Given as goal

abbrev pub invariant-loop : goal.invariant-loop
invariant-loop g l = l.guest.of ≡ l.fn.guest.of
