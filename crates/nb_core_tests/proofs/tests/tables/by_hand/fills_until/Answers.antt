use Rattle.nb_table.proofs.Theorems.{steps_add_up}
use Rattle.nb_core_tests.proofs.tests.tables.by_hand.fills_until.Goals as goal

pub finishes-requires-clause-claimed : goal.finishes-requires-clause-claimed
finishes-requires-clause-claimed g c =
    let load = steps_add_up.one c.load_value.ensures.grows in
    let lasting = steps_add_up.stays c.fills.ensures.own load in
    lasting.claimed 0 0 c.args.key c.requires.slot c.fills.ensures.claimed

pub finishes-requires-clause-held : goal.finishes-requires-clause-held
finishes-requires-clause-held g c =
    let load = steps_add_up.one c.load_value.ensures.grows in
    let lasting = steps_add_up.stays c.fills.ensures.own load in
    lasting.primed_or_finished 0 0 c.args.number c.requires.slot c.fills.ensures.held

pub finishes-requires-clause-above : goal.finishes-requires-clause-above
finishes-requires-clause-above g c =
    let load = steps_add_up.one c.load_value.ensures.grows in
    let lasting = steps_add_up.stays c.fills.ensures.own load in
    lasting.has_value 1 c.args.key c.requires.above.0 c.fills.ensures.above
