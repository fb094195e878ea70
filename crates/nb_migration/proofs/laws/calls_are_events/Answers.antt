use Rattle.nb_migration.proofs.CallEvents.{calls_are_events}
use Rattle.nb_migration.proofs.laws.calls_are_events.Goals as goal

pub returns : goal.returns
returns c = calls_are_events
