use Rattle.std.proofs.Common.{ap, arith}
use Rattle.nb_count.proofs.Keeping.{allows-look}
use Rattle.nb_count.proofs.Views.{own-table}
use Rattle.nb_count.proofs.counter.Counter.look.Goals as goal

pub load-requires : goal.load-requires
load-requires c = (
  own-table c.self.inside c.seat.inside _ _ c.self.view_is c.seat.view_is c.requires.own,
  omega (arith, c.self.invariant.words, c.requires.stripe, ap (λ v. v.stripes) c.self.view_is),
  allows-look _ _ _ _ _ _ c.seat.invariant.one,
)
