use Rattle.std.proofs.Common.{◌∷◌, [], None, ap, length, length-append, arith}
use Rattle.nb_core.proofs.Seating.{moved-count}
use Rattle.nb_map.proofs.Reserves.{has-seat, one-less}
use Rattle.nb_map.proofs.handle.reserve.Reserve.gathered.Goals as goal

pub unreachable-requires : goal.unreachable-requires
unreachable-requires c =
    let inv = c.loop.invariant in
    has-seat c.loop.nodes c.turned.new.nodes c.turned.ensures.0 inv.1 c.turned.result None
    (c.args.own ∷ c.args.self) c.loop.seats.items c.loop.seats.items inv.0 inv.2 c.turned.ensures.1
    c.turned.ensures.2 inv.3 (omega (arith, inv.4, c.loop-test.true)) c.in_default.is

pub push_reserved-requires-in-loop : goal.push_reserved-requires-in-loop
push_reserved-requires-in-loop c =
    let inv = c.loop.invariant in
    omega (arith, moved-count inv.3, inv.4, inv.6, inv.7, c.loop.seats.ok, c.loop-test.true)

pub loop-preserved : goal.loop-preserved
loop-preserved c =
    let inv = c.loop.invariant in
    let turned = c.turned.ensures in
    let less = one-less c.loop.nodes c.turned.new.nodes turned.0 inv.1 c.turned.result None
    (c.args.own ∷ c.args.self) c.loop.seats.items c.loop.seats.items inv.0 inv.2 turned.1 turned.2
    inv.3 c.in-Some.seat c.in-Some.is (omega (arith, inv.4, c.loop-test.true)) in (
      less.0,
      less.1,
      less.2,
      rw c.push_reserved-in-loop.ensures.items less.3,
      omega (arith, less.4, inv.4),
      omega (arith, inv.5, ap length turned.1, ap length turned.2, length-append turned.0 (None ∷ [])),
      inv.6,
      omega (arith, inv.7, c.push_reserved-in-loop.ensures.capacity),
    )
