use Rattle.std.proofs.Common.{◌≡◌, ◌∙◌, ap, is_some, subst, sym}
use Rattle.std.specs.FinMap.{contains_key}
use Rattle.nb_set.specs.Ending.{set_left}
use Rattle.nb_set.proofs.Items.{left}
use Rattle.nb_set.proofs.ended.SetEnded.contains.Goals as goal

pub returns : goal.returns
returns c =
    subst (λ ended. c.is_some.result ≡ contains_key (set_left ended) c.args.key) c.self.view_is
    (c.is_some.ensures ∙ ap is_some c.get.ensures
    ∙ sym (left (record { map = c.self.inside.map }) c.known.ensures.replayed c.args.key))
