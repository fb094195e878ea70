use Rattle.std.proofs.Common.{◌≡◌, ◌∙◌, subst, sym}
use Rattle.std.specs.FinMap.{len}
use Rattle.nb_set.specs.Ending.{set_left}
use Rattle.nb_set.proofs.Items.{len-left}
use Rattle.nb_set.proofs.ended.SetEnded.size.Goals as goal

pub returns : goal.returns
returns c =
    subst (λ ended. c.size.result ≡ len (set_left ended)) c.self.view_is
    (c.size.ensures.keys
    ∙ sym (len-left (record { map = c.self.inside.map }) c.known.ensures.replayed))
