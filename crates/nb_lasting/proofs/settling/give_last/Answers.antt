use Rattle.nb_lasting.proofs.Settled.{can-give-last, given-last}
use Rattle.nb_lasting.proofs.Giving.{may-give}
use Rattle.nb_lasting.proofs.settling.give_last.Goals as goal

pub give_back-requires-clause-may : goal.give_back-requires-clause-may
give_back-requires-clause-may c =
    may-give c.args.hall.now.table.shared.key c.args.hall.now.table.shared.table_id.slots c.args.lane c.exchange.new.seat.id
    c.exchange.new.seat.me c.requires.lane
    (can-give-last c.args.lane c.args.token.now.me c.exchange.new.seat.me c.exchange.new.seat.me
    c.pop.new.self.items c.args.handles.now.items c.in-Some.handle c.in-Some.ensures.items
    c.exchange.ensures.3 c.requires.can.0 c.requires.can.1 c.requires.guest)

pub returns-clause-settled : goal.returns-clause-settled
returns-clause-settled c whole can =
    given-last c.args.lane c.args.token.now.me c.exchange.new.seat.me c.give_back.new.token.me
    c.pop.new.self.items c.args.handles.now.items c.in-Some.handle c.in-Some.ensures.items
    c.exchange.ensures.3 whole can c.give_back.ensures.given.1
