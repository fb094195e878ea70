use Rattle.nb_migration.proofs.Told.{answers_tell}
use Rattle.nb_migration.proofs.laws.answers_tell.Goals as goal

pub returns : goal.returns
returns c = answers_tell
