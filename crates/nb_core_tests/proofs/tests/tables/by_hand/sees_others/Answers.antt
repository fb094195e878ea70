use Rattle.nb_table.specs.Chains.{seen_by}
use Rattle.nb_table.proofs.Theorems.{steps_add_up}
use Rattle.nb_core_tests.proofs.ByHand.{one-more}
use Rattle.nb_core_tests.proofs.tests.tables.by_hand.sees_others.Goals as goal

pub loop-distance-preserved : goal.loop-distance-preserved
loop-distance-preserved g c =
    let look = c.sees_other.ensures in
    let so_far = c.loop-distance.invariant in
    let lasting = steps_add_up.stays so_far.0 look.grows in
    let before = lasting.others 0 c.args.key c.loop-distance.distance look.table so_far.1 in
    let p = c.args.chain.now.shape in (
      steps_add_up.own so_far.0 look.grows,
      one-more p (seen_by p c.sees_other.new.seat) c.args.key _ before look.other,
    )
