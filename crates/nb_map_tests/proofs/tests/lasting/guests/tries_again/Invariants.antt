use Rattle.std.proofs.Common.{◌≡◌}
use Rattle.nb_map_tests.proofs.tests.lasting.guests.tries_again.Given as goal

abbrev pub invariant-loop-word : goal.invariant-loop-word
invariant-loop-word g l = l.guest.of ≡ l.fn.guest.of
