use Rattle.nb_migration.proofs.EnteredCalls.{calls_are_entries}
use Rattle.nb_migration.proofs.laws.calls_are_entries.Goals as goal

pub returns : goal.returns
returns c = calls_are_entries
