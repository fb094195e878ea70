use Rattle.std.proofs.Common.{subst}
use Rattle.nb_core.specs.Tables.{IsUnprimed}
use Rattle.nb_map.proofs.Made.{made-own}
use Rattle.nb_map.proofs.There.{unprimed-there}
use Rattle.nb_map.proofs.steps.there.write_there.Goals as goal

-- where there is one table, no slot is copied
pub unreachable-requires : goal.unreachable-requires
unreachable-requires c =
    let chain = c.args.chain.now in
    let own = made-own chain c.requires.own c.in-Copied.ensures.made in
    c.in-Copied.ensures.tried.0
    (subst IsUnprimed c.in-Copied.ensures.tried.1
    (unprimed-there chain c.try_at.new.seat c.args.slot c.requires.one own c.requires.slot.0))
