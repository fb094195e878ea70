use Rattle.std.proofs.Common.{◌∙◌}
use Rattle.nb_map_tests.proofs.tests.lasting.guests.round.Goals as goal

pub returns : goal.returns
returns g c =
    c.remove-gone.ensures.of ∙ c.get-now.ensures.of ∙ c.put-found.ensures.of
    ∙ c.add-added.ensures.of
