use Rattle.std.proofs.Common.{subst}
use Rattle.nb_set.specs.Ending.{log_left}
use Rattle.nb_set.specs.Log.{IsReplayed}
use Rattle.nb_set.proofs.Read.{read}
use Rattle.nb_set.proofs.ended.SetEnded.known.Goals as goal

pub returns : goal.returns
returns c = subst (λ ended. IsReplayed (log_left ended)) c.self.view_is
    (read _ c.known.ensures.replayed).0
