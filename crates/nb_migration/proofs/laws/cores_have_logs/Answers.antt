use Rattle.nb_migration.proofs.RunLogs.{cores_have_logs}
use Rattle.nb_migration.proofs.laws.cores_have_logs.Goals as goal

pub returns : goal.returns
returns c = cores_have_logs
