use Rattle.std.proofs.Common.{refl}
use Rattle.nb_moving.specs.Examples.{put_without_close}
use Rattle.nb_moving.proofs.Refused.{legal_before, seals_before, put_without_close_refused}
use Rattle.nb_moving.proofs.refusals.put_without_close.Goals as goal

pub returns-clause-legal : goal.returns-clause-legal
returns-clause-legal c = legal_before put_without_close refl

pub returns-clause-seals : goal.returns-clause-seals
returns-clause-seals c = seals_before put_without_close refl

pub returns-clause-refused : goal.returns-clause-refused
returns-clause-refused c = put_without_close_refused
