use Rattle.std.proofs.Common.{Ok}
use Rattle.nb_migration.proofs.Replied.{from_reply}
use Rattle.nb_migration.proofs.writes.find.Goals as goal

pub returns-in-Ok-clause-wrote : goal.returns-in-Ok-clause-wrote
returns-in-Ok-clause-wrote c = from_reply (Ok c.in-Ok.reply) c.in-Ok.ensures.wrote
