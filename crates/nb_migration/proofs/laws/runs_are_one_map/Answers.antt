use Rattle.nb_migration.specs.Runs.{history_of}
use Rattle.nb_migration.proofs.RunLogs.{cores_have_logs}
use Rattle.nb_migration.proofs.laws.runs_are_one_map.Goals as goal

pub returns : goal.returns
returns c = λ run is seals.
    c.cores_are_one_map.ensures (history_of run) (cores_have_logs run is).legal seals
