use Rattle.nb_table.proofs.Theorems.{steps_add_up}
use Rattle.nb_core_tests.proofs.tests.tables.by_hand.primes.Goals as goal

pub prime-requires-clause-growing : goal.prime-requires-clause-growing
prime-requires-clause-growing g c =
    let lasting = steps_add_up.stays c.sees_next.ensures.own c.sees_key.ensures.grows in
    lasting.installed 1 c.sees_next.ensures.installed
