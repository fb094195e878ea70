use Rattle.std.proofs.Common.{◌≡◌, ◌∙◌, IfOk, ap, subst}
use Rattle.std.specs.FinMap as map
use Rattle.nb_map.proofs.Sizes.{left-map}
use Rattle.nb_map.specs.Ending.{map_left}
use Rattle.nb_map.proofs.map.ended.Ended.entries.Goals as goal

pub returns : goal.returns
returns c =
    subst (λ m. IfOk c.entries.result (λ entries. entries.items ≡ map.entries m))
    (left-map c.self.inside.closed c.self.invariant.left ∙ ap map_left c.self.view_is)
    c.entries.ensures
