use Rattle.std.proofs.Common.{◌^◌, ◌≤◌, slice_index, subst, sym}
use Rattle.std.proofs.Math.Pow.{pow_mono}
use Rattle.nb_core.proofs.Kept.{exponents-at, exponents-few, lasts-at}
use Rattle.nb_core.proofs.shapes.Shape.last_of.Goals as goal

pub returns-clause-last : goal.returns-clause-last
returns-clause-last c = lasts-at _ _ c.args.g c.self.invariant c.self.view_is c.requires

pub returns-clause-few : goal.returns-clause-few
returns-clause-few c =
    let e = slice_index c.self.inside.exponents c.args.g in
    let few : 2 ^ e ≤ 2 ^ 28 =
    pow_mono (exponents-few _ _ c.args.g c.self.invariant c.self.view_is c.requires) in
    subst (λ k. 2 ^ k ≤ 2 ^ 28)
    (sym (exponents-at c.self.inside _ c.args.g c.self.view_is c.requires)) few
