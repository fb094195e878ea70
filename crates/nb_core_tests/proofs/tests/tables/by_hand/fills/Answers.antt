use Rattle.nb_table.specs.Chains.{seen_by}
use Rattle.nb_table.proofs.Theorems.{steps_add_up}
use Rattle.nb_core_tests.proofs.ByHand.{copied-step}
use Rattle.nb_core_tests.proofs.tests.tables.by_hand.fills.Goals as goal

pub copy_in-requires-clause-source : goal.copy_in-requires-clause-source
copy_in-requires-clause-source c =
    (0, c.requires.slot.1, c.requires.claimed, c.requires.held)

pub returns : goal.returns
returns c =
    let left = (seen_by c.args.chain.now.shape c.copy_in.new.seat).value 1 0 in
    let copy = copied-step left c.copy_in.result c.copy_in.ensures.won c.copy_in.ensures.lost in
    let step = steps_add_up.one copy.0.1 in
    let lasting = steps_add_up.stays c.requires.own step in
    record {
      own = steps_add_up.own c.requires.own step;
      claimed = lasting.claimed 0 0 c.args.key c.requires.slot c.requires.claimed;
      held = lasting.primed_or_finished 0 0 c.args.number c.requires.slot c.requires.held;
      above = record {
        slot = 0;
        in_table = c.requires.above.1;
        is = lasting.claimed 1 0 c.args.key c.requires.above c.requires.copies;
        some = copy.1;
      };
    }
