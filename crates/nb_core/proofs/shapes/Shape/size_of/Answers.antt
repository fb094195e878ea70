use Rattle.std.proofs.Common.{◌*◌, ◌^◌, ◌≤◌, slice_index, arith}
use Rattle.std.proofs.Math.Nat.{mod-le}
use Rattle.std.proofs.Math.Pow.{pow_mono}
use Rattle.nb_core.proofs.Kept.{exponents-few}
use Rattle.nb_core.proofs.shapes.Shape.size_of.Goals as goal

pub returns-clause-few : goal.returns-clause-few
returns-clause-few c =
    let e = slice_index c.self.inside.exponents c.args.g in
    let few : 2 ^ e ≤ 2 ^ 28 =
    pow_mono (exponents-few _ _ c.args.g c.self.invariant c.self.view_is c.requires) in
    omega (arith, mod-le (1 * 2 ^ e) (2 ^ 64), few)
