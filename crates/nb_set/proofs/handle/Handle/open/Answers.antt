use Rattle.nb_set.specs.Handles.{as_handle, seats_of}
use Rattle.nb_set.proofs.Dealt.{logs-empty}
use Rattle.nb_set.proofs.handle.Handle.open.Goals as goal

pub returns-clause-empty : goal.returns-clause-empty
returns-clause-empty c =
    logs-empty (as_handle c.in_ok-map.map).set c.args.shape.seats
    (seats_of (as_handle c.in_ok-map.map)) c.in_ok-map.ensures.seats
