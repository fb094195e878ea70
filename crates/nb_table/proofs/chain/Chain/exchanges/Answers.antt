use Rattle.std.proofs.Common.{eqb}
use prog.Atomic.{either}
use Rattle.nb_table.proofs.Views.{asked-seat, can-exchange, stepped-is_seat, stepped-seat}
use Rattle.nb_table.proofs.chain.Chain.exchanges.Goals as goal

pub compare_exchange-requires : goal.compare_exchange-requires
compare_exchange-requires g c =
    asked-seat c.self.inside c.seat.inside _ _ _ _ _
    (λ found. either (eqb found c.args.old) c.args.new found) c.self.view_is
    c.seat.view_is c.self.invariant c.seat.invariant c.requires.own c.requires.shape
    c.requires.within
    (can-exchange _ g.B.Told.events _ _ _ _ _ c.requires.can)

pub invariant_of-seat : goal.invariant_of-seat
invariant_of-seat g c =
    stepped-is_seat _ _ _ _ c.seat.inside c.compare_exchange.new.seat _ c.seat.invariant
    c.seat.view_is
    c.compare_exchange.ensures.2

pub returns : goal.returns
returns g c =
    stepped-seat _ _ _ _ c.seat.inside c.compare_exchange.new.seat _ c.seat.invariant c.seat.view_is
    c.compare_exchange.ensures.2 c.compare_exchange.ensures.0
