use Rattle.std.proofs.Common.{[], ◌++◌, ap, refl, subst, sym, arith}
use Rattle.nb_core.specs.Plans.{IsPlan}
use Rattle.nb_core.proofs.Theorems.{beginnings_are_legal}
use Rattle.nb_table.specs.Inside.{part_of}
use Rattle.nb_table.specs.Steps.{Can}
use Rattle.nb_table.proofs.Following.{none-follows}
use Rattle.nb_table.proofs.Opening.{some-words}
use Rattle.nb_table.proofs.Tops.{top-few}
use Rattle.nb_table.proofs.Views.{asked}
use Rattle.nb_table.proofs.chain.Chain.hears.Goals as goal

pub load-requires : goal.load-requires
load-requires g c =
    let p = g.B.Told.shape in
    let part = part_of c.args.seat.now.me.0.parts in
    let can : Can p (λ found. []) part.number part.seen 0 (λ found. found)
    = λ plan seated others not_own legal. none-follows p part.number 0 _ _ legal refl in
    asked c.self.inside c.args.seat.now c.args.self.now p g.B.Told.events 0 (λ found. found)
    c.self.view_is
    c.self.invariant c.requires.one c.requires.own c.requires.shape
    (some-words c.args.self.now.shape)
    (subst (λ events. Can p events part.number part.seen 0 (λ found. found)) (sym c.requires.none)
    can)

-- what it finds is the number of a table
pub overflow_cast-result : goal.overflow_cast-result
overflow_cast-result g c =
    let p = c.args.self.now.shape in
    let part = part_of c.args.seat.now.me.0.parts in
    let plan = subst IsPlan (ap (λ v. v.shape) c.self.view_is) c.self.invariant.plan in
    let moves = c.load.ensures.2.moves part c.requires.one in
    let h = moves.others ++ part.seen in
    let legal = beginnings_are_legal g.B.Told.shape (g.B.Told.events c.load.result) h moves.legal in
    omega (
      arith,
      top-few g.B.Told.shape (subst IsPlan (sym c.requires.shape) plan) h legal,
      moves.word,
    )
