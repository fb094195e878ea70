use Rattle.std.proofs.Common.{ap₂}
use Rattle.nb_map.specs.NamedCalls.{put_below_of}
use Rattle.nb_migration.proofs.OpenWrites.{put-open}
use Rattle.nb_migration.proofs.Replied.{from_found, written_open}
use Rattle.nb_migration.proofs.writes.put.Goals as goal

pub returns-clause-wrote : goal.returns-clause-wrote
returns-clause-wrote c =
    let call = put_below_of c.args.key in
    let found = c.try_put_below-found in
    written_open (call c.plain-number.result c.user_end.result)
    (call c.plain-number.result c.user_end-2.result) found.result
    (ap₂ call c.plain-number.ensures.number c.user_end.ensures)
    (ap₂ call c.plain-number.ensures.number c.user_end-2.ensures)
    (put-open c.args.key c.args.number c.plain-number.ensures.in_range)
    (from_found found.result found.ensures.wrote) (c.answer_or_fault.ensures c.args.key)
