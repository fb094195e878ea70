use Rattle.std.proofs.Common.{ap}
use Rattle.nb_map.specs.NamedCalls.{put_if_absent_of}
use Rattle.nb_migration.proofs.OpenWrites.{put_if_absent-open}
use Rattle.nb_migration.proofs.Replied.{from_found, written_open}
use Rattle.nb_migration.proofs.writes.put_if_absent.Goals as goal

pub returns-clause-wrote : goal.returns-clause-wrote
returns-clause-wrote c =
    let call = put_if_absent_of c.args.key in
    let found = c.try_put_if_absent-found in
    written_open (call c.plain-number.result) (call c.plain-number.result) found.result
    (ap call c.plain-number.ensures.number) (ap call c.plain-number.ensures.number)
    (put_if_absent-open c.args.key c.args.number c.plain-number.ensures.in_range)
    (from_found found.result found.ensures.wrote) (c.answer_or_fault.ensures c.args.key)
