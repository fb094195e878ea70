use Rattle.std.proofs.Common.{rules}
use Rattle.nb_map.proofs.Away.{goes_on, gone_on}
use Rattle.nb_map.proofs.map.Map.try_put_below.Goals as goal
use Rattle.nb_map.specs.NamedCalls.{put_below_of}
use Rattle.nb_map.specs.inside.Waiting.{CantOverflow}

pub returns : goal.returns
returns c =
    let sumless : CantOverflow (put_below_of c.args.key c.args.number c.args.limit) = search rules in
    gone_on (goes_on _ _ _ _ _ _ _ sumless c.write_straight-told.ensures.tries c.in_default.not-Made) _
    (rw c.answer.ensures c.try_put_below_general.ensures)
