use Rattle.std.proofs.Common.{◌∙◌, ◌+◌, ap, subst, sym, arith}
use Rattle.nb_table.specs.Chains.{KnowsTop}
use Rattle.nb_table.specs.Inside.{remembering, seat_of}
use Rattle.nb_table.specs.Steps.{Stepped}
use Rattle.nb_table.proofs.Counts.{can-promote, promoted, raised, top-found, was-higher}
use Rattle.nb_table.proofs.Events.{promote_events}
use Rattle.nb_table.proofs.Tops.{now-remembers}
use Rattle.nb_table.proofs.chain.Chain.promote.Goals as goal

pub raises-found-requires-clause-can : goal.raises-found-requires-clause-can
raises-found-requires-clause-can c =
    let seat = c.args.seat.now in
    can-promote c.args.self.now.shape seat.number c.args.g seat.seen c.requires.table
    c.requires.complete
    _ (ap (λ n. n + 1) c.from.ensures)

pub overflow_cast-found : goal.overflow_cast-found
overflow_cast-found c =
    omega (arith, top-found _ c.requires.own.plan _ _ _ _ c.raises-found.ensures)

-- the seat from within
step :
    (c : goal.After-seat-1)
    → Stepped c.args.self.now.shape (promote_events c.args.seat.now.number c.args.g) 0
    c.args.seat.now c.raises-found.result (seat_of c.seat.inside)
step c =
    subst (Stepped c.args.self.now.shape (promote_events c.args.seat.now.number c.args.g) 0
    c.args.seat.now c.raises-found.result) (sym c.seat.view_is) c.raises-found.ensures

knows :
    (c : goal.After-seat-1)
    → KnowsTop c.args.self.now.shape (remembering c.max-top.result (seat_of c.seat.inside))
knows c =
    c.max-top.ensures ∙ promoted c.args.self.now.shape c.requires.own.plan c.args.g
    c.raises-found.result c.args.seat.now (seat_of c.seat.inside) (step c)

pub returns-clause-raised : goal.returns-clause-raised
returns-clause-raised c = λ low.
    let p = c.args.self.now.shape in
    let plan = c.requires.own.plan in
    let told = raised p plan c.args.g c.raises-found.result c.args.seat.now (seat_of c.seat.inside)
    (step c) low in
    (now-remembers p plan c.max-top.result c.requires.own.known (knows c) told.0, told.1, told.2)

pub returns-clause-was_higher : goal.returns-clause-was_higher
returns-clause-was_higher c = λ high.
    let p = c.args.self.now.shape in
    let told = was-higher p c.args.g c.raises-found.result c.args.seat.now (seat_of c.seat.inside)
    (step c) high in (
      now-remembers p c.requires.own.plan c.max-top.result c.requires.own.known (knows c) told.0,
      told.1,
    )

pub returns-clause-known : goal.returns-clause-known
returns-clause-known c = knows c
