use Rattle.std.proofs.Common.{bit_or}
use Rattle.nb_table.proofs.Views.{asked-seat, stepped-is_seat, stepped-seat}
use Rattle.nb_table.proofs.chain.Chain.ors.Goals as goal

pub fetch_or-requires : goal.fetch_or-requires
fetch_or-requires g c =
    asked-seat c.self.inside c.seat.inside _ _ _ _ _ (λ found. bit_or found c.args.bits)
    c.self.view_is c.seat.view_is
    c.self.invariant c.seat.invariant c.requires.own c.requires.shape c.requires.within
    c.requires.can

pub invariant_of-seat : goal.invariant_of-seat
invariant_of-seat g c =
    stepped-is_seat _ _ _ _ c.seat.inside c.fetch_or.new.seat _ c.seat.invariant c.seat.view_is
    c.fetch_or.ensures.2

pub returns : goal.returns
returns g c =
    stepped-seat _ _ _ _ c.seat.inside c.fetch_or.new.seat _ c.seat.invariant c.seat.view_is
    c.fetch_or.ensures.2 c.fetch_or.ensures.0
