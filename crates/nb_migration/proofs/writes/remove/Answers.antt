use Rattle.std.proofs.Common.{ap}
use Rattle.nb_map.specs.NamedCalls.{remove_below_of}
use Rattle.nb_migration.proofs.OpenWrites.{remove-open}
use Rattle.nb_migration.proofs.Replied.{from_found, written_open}
use Rattle.nb_migration.proofs.writes.remove.Goals as goal

pub returns-clause-wrote : goal.returns-clause-wrote
returns-clause-wrote c =
    let call = remove_below_of c.args.key in
    let found = c.try_remove_below-found in
    written_open (call c.user_end.result) (call c.user_end-2.result) found.result
    (ap call c.user_end.ensures) (ap call c.user_end-2.ensures) (remove-open c.args.key)
    (from_found found.result found.ensures.wrote) (c.answer_or_fault.ensures c.args.key)
