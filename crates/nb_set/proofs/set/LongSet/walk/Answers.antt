use Rattle.std.proofs.Common.{subst}
use Rattle.nb_set.specs.Promises.{HasBegunWalk}
use Rattle.nb_set.specs.Walks.{WalkOf}
use Rattle.nb_set.proofs.Promised.{begun-walk}
use Rattle.nb_set.proofs.set.LongSet.walk.Goals as goal

pub returns : goal.returns
returns c =
    let walk : WalkOf = record { map = c.walk-map.result } in
    subst (λ set. HasBegunWalk set c.args.seat.now c.walk-map.new.seat walk) c.self.view_is
    (begun-walk c.walk-map.ensures)
