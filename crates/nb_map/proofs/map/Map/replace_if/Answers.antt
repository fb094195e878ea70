use Rattle.std.proofs.Common.{rules}
use Rattle.nb_map.proofs.Away.{goes_on, gone_on}
use Rattle.nb_map.proofs.map.Map.replace_if.Goals as goal
use Rattle.nb_map.specs.NamedCalls.{replace_if_of}
use Rattle.nb_map.specs.inside.Waiting.{CantOverflow}

pub returns : goal.returns
returns g c =
    let sumless : CantOverflow (replace_if_of c.args.key c.args.old c.args.new) = search rules in
    gone_on (goes_on _ _ _ _ _ _ _ sumless c.write_straight-told.ensures.waits c.in_default.not-Made) _
    c.replace_if_general.ensures
