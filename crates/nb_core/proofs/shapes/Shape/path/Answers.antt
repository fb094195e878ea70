use Rattle.std.proofs.Common.{refl}
use Rattle.nb_core.proofs.Kept.{bases-at, lasts-at, plan-kept}
use Rattle.nb_core.proofs.shapes.Shape.path.Goals as goal

pub returns : goal.returns
returns c = record {
  plan = plan-kept _ _ c.self.invariant c.self.view_is;
  within = c.requires;
  table = refl;
  key = refl;
  last = lasts-at _ _ c.args.g c.self.invariant c.self.view_is c.requires;
  base = bases-at _ _ c.args.g c.self.invariant c.self.view_is c.requires;
}
