use Rattle.std.proofs.Common.{◌≡◌, ◌∷◌, [], drop, take}
use Rattle.std.specs.List.{AllZip}
use Rattle.nb_map.specs.Maps.{IsMine}
use Rattle.nb_runner.specs.Working.{HasMetAll, HasMetAs, worker_seats}
use Rattle.nb_runner.proofs.workers.meet_each.Given as goal

-- the seat and the first of the others have met
abbrev pub invariant-loop-other : goal.invariant-loop-other
invariant-loop-other l =
    IsMine l.map l.seat
    × HasMetAll l.map (worker_seats (take l.other-index l.fn.others)) l.fn.seat l.seat
    × AllZip (HasMetAs l.map (l.fn.seat ∷ [])) (take l.other-index l.fn.others)
    (take l.other-index l.others)
    × (drop l.other-index l.others ≡ drop l.other-index l.fn.others)
