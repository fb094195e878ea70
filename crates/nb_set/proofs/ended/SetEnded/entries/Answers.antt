use Rattle.std.proofs.Common.{◌≡◌, ◌∙◌, ap, map, subst, sym}
use Rattle.std.proofs.lemmas.Result.{IfOk-weaker}
use Rattle.std.specs.FinMap as numbers
use Rattle.nb_set.specs.Ending.{set_left}
use Rattle.nb_set.proofs.Items.{keys-left}
use Rattle.nb_set.proofs.ended.SetEnded.entries.Goals as goal

pub returns : goal.returns
returns c =
    IfOk-weaker c.keys_in.result _ (λ found. found.items ≡ numbers.keys (set_left c.args.self.now))
    (λ found is. subst (λ ended. found.items ≡ numbers.keys (set_left ended)) c.self.view_is
    (is ∙ ap (map (λ entry. entry.0)) c.in_ok-entries.ensures
    ∙ sym (keys-left (record { map = c.self.inside.map }) c.known.ensures.replayed)))
    c.keys_in.ensures
