use Rattle.nb_table.proofs.Theorems.{steps_add_up}
use Rattle.nb_core_tests.proofs.tests.tables.by_hand.copies_in.Goals as goal

pub fills-requires-clause-claimed : goal.fills-requires-clause-claimed
fills-requires-clause-claimed g c =
    let lasting = steps_add_up.stays c.requires.own c.sees_key.ensures.grows in
    lasting.claimed 0 0 c.args.key c.requires.slot c.requires.claimed

pub fills-requires-clause-held : goal.fills-requires-clause-held
fills-requires-clause-held g c =
    let lasting = steps_add_up.stays c.requires.own c.sees_key.ensures.grows in
    lasting.primed_or_finished 0 0 c.args.number c.requires.slot c.requires.held
