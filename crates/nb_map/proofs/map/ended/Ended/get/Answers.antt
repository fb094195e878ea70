use Rattle.std.proofs.Common.{◌∙◌, ap}
use Rattle.std.specs.FinMap as map
use Rattle.nb_map.proofs.Sizes.{left-map}
use Rattle.nb_map.specs.Ending.{map_left}
use Rattle.nb_map.proofs.map.ended.Ended.get.Goals as goal

pub returns : goal.returns
returns c =
    c.get.ensures
    ∙ ap (λ m. map.get m c.args.key) (left-map c.self.inside.closed c.self.invariant.left
    ∙ ap map_left c.self.view_is)
