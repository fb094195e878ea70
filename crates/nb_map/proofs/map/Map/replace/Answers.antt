use Rattle.std.proofs.Common.{rules}
use Rattle.nb_map.proofs.Away.{goes_on, gone_on}
use Rattle.nb_map.proofs.map.Map.replace.Goals as goal
use Rattle.nb_map.specs.NamedCalls.{replace_of}
use Rattle.nb_map.specs.inside.Waiting.{CantOverflow}

pub returns : goal.returns
returns g c =
    let sumless : CantOverflow (replace_of c.args.key c.args.number) = search rules in
    gone_on (goes_on _ _ _ _ _ _ _ sumless c.write_straight-told.ensures.waits c.in_default.not-Made) _
    c.replace_general.ensures
