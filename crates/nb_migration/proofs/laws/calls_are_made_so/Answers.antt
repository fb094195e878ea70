use Rattle.nb_migration.proofs.MadeCalls.{calls_are_made_so}
use Rattle.nb_migration.proofs.laws.calls_are_made_so.Goals as goal

pub returns : goal.returns
returns c = calls_are_made_so
