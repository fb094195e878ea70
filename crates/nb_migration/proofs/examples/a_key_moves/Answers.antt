use Rattle.nb_migration.proofs.RunExamples.{a_key-moves}
use Rattle.nb_migration.proofs.examples.a_key_moves.Goals as goal

pub returns-clause-turns : goal.returns-clause-turns
returns-clause-turns c = a_key-moves
