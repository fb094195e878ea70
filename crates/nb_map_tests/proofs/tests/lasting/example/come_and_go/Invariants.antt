use Rattle.std.proofs.Common.{◌≡◌}
use Rattle.nb_map_tests.proofs.tests.lasting.example.come_and_go.Given as goal

abbrev pub invariant-loop-n : goal.invariant-loop-n
invariant-loop-n g l = l.guest.of ≡ l.fn.guest.of
