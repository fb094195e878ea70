use Rattle.std.proofs.Common.{refl}
use Rattle.nb_moving.specs.Examples.{miss_in_full}
use Rattle.nb_moving.proofs.Refused.{legal_before, seals_before, miss_in_full_refused}
use Rattle.nb_moving.proofs.refusals.miss_in_full.Goals as goal

pub returns-clause-legal : goal.returns-clause-legal
returns-clause-legal c = legal_before miss_in_full refl

pub returns-clause-seals : goal.returns-clause-seals
returns-clause-seals c = seals_before miss_in_full refl

pub returns-clause-refused : goal.returns-clause-refused
returns-clause-refused c = miss_in_full_refused
