use Rattle.std.proofs.Common.{refl}
use Rattle.nb_moving.specs.Examples.{stale_reply}
use Rattle.nb_moving.proofs.Refused.{legal_before, seals_before, stale_reply_refused}
use Rattle.nb_moving.proofs.refusals.stale_reply.Goals as goal

pub returns-clause-legal : goal.returns-clause-legal
returns-clause-legal c = legal_before stale_reply refl

pub returns-clause-seals : goal.returns-clause-seals
returns-clause-seals c = seals_before stale_reply refl

pub returns-clause-refused : goal.returns-clause-refused
returns-clause-refused c = stale_reply_refused
