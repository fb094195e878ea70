use Rattle.nb_table.proofs.Theorems.{steps_add_up}
use Rattle.nb_core_tests.proofs.ByHand.{finished-step}
use Rattle.nb_core_tests.proofs.tests.tables.by_hand.finishes.Goals as goal

pub returns : goal.returns
returns c =
    let met = c.finish_slot.ensures in
    let held = met.held c.args.number c.requires.held in
    let finish = finished-step c.finish_slot.result c.args.number held met.won met.lost in
    let step = steps_add_up.one finish.1 in
    let lasting = steps_add_up.stays c.requires.own step in
    record {
      own = steps_add_up.own c.requires.own step;
      claimed = lasting.claimed 0 0 c.args.key c.requires.slot c.requires.claimed;
      held = lasting.primed_or_finished 0 0 c.args.number c.requires.slot c.requires.held;
    }
