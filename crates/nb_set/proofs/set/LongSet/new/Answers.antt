use Rattle.nb_set.proofs.Dealt.{logs-empty}
use Rattle.nb_set.proofs.set.LongSet.new.Goals as goal

pub returns-clause-empty : goal.returns-clause-empty
returns-clause-empty c =
    logs-empty (record { map = c.in_ok-map.map }) c.args.shape.seats c.in_ok-map.seats.items
    c.in_ok-map.ensures.seats
