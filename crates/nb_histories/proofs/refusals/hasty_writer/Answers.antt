use Rattle.std.proofs.Common.{refl}
use Rattle.nb_histories.specs.Refusals.{hasty_writer}
use Rattle.nb_histories.proofs.Refused.{legal_before, hasty_writer_refused}
use Rattle.nb_histories.proofs.refusals.hasty_writer.Goals as goal

pub returns-clause-legal : goal.returns-clause-legal
returns-clause-legal c = legal_before hasty_writer refl

pub returns-clause-refused : goal.returns-clause-refused
returns-clause-refused c = hasty_writer_refused
