use Rattle.std.proofs.Common.{◌≡◌, max, arith, rules}
use Rattle.nb_core.specs.Plans.{slots_for}
use Rattle.nb_core.proofs.Keyed.{IsExponent, exponent-found}
use Rattle.nb_core.proofs.shapes.keys.last_exponent.Goals as goal

found : (c : goal.After-ilog2) → IsExponent c.args.most c.ilog2.result
found c =
    let slots : c.max-slots.result ≡ max (slots_for c.args.most) 32 = search rules in
    exponent-found c.args.most c.max-slots.result c.ilog2.result c.requires slots
    c.ilog2.ensures.power_le c.ilog2.ensures.next_power_gt

pub returns-clause-first : goal.returns-clause-first
returns-clause-first c = omega (arith, (found c).first)

pub returns-clause-least : goal.returns-clause-least
returns-clause-least c = omega (arith, (found c).least)

pub returns-clause-greatest : goal.returns-clause-greatest
returns-clause-greatest c = omega (arith, (found c).greatest)
