use Rattle.std.proofs.Common.{refl}
use Rattle.nb_histories.specs.Refusals.{late_copier_past_a_primed_tombstone}
use Rattle.nb_histories.proofs.Refused.{legal_before, late_copier_past_a_primed_tombstone_refused}
use Rattle.nb_histories.proofs.refusals.late_copier_past_a_primed_tombstone.Goals as goal

pub returns-clause-legal : goal.returns-clause-legal
returns-clause-legal c = legal_before late_copier_past_a_primed_tombstone refl

pub returns-clause-refused : goal.returns-clause-refused
returns-clause-refused c = late_copier_past_a_primed_tombstone_refused
