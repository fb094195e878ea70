use Rattle.nb_table.proofs.Theorems.{steps_add_up}
use Rattle.nb_core_tests.proofs.tests.tables.by_hand.sees_source.Goals as goal

pub returns-clause-claimed : goal.returns-clause-claimed
returns-clause-claimed g c =
    let load = steps_add_up.one c.load_value-value.ensures.grows in
    let lasting = steps_add_up.stays c.sees_key.ensures.own load in
    lasting.claimed 0 0 c.args.key c.sees_key.ensures.slot c.sees_key.ensures.claimed
