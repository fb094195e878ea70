use Rattle.std.specs.Prelude.{None}
use Rattle.nb_lasting.proofs.Dealt.{can-deal, dealt, slot_is}
use Rattle.nb_lasting.proofs.Giving.{may-deal}
use Rattle.nb_lasting.proofs.renewing.deal.Goals as goal

pub exchange-requires : goal.exchange-requires
exchange-requires c =
    (c.requires.table, (None, slot_is c.args.lane c.args.token.now.me c.requires.holds.slots))

pub give_back-requires-clause-may : goal.give_back-requires-clause-may
give_back-requires-clause-may c =
    may-deal c.args.hall.now.table.shared.key c.args.hall.now.table.shared.table_id.slots c.args.lane c.exchange.new.seat.id
    c.exchange.new.seat.me c.requires.lane
    (can-deal c.args.lane c.args.token.now.me c.exchange.new.seat.me c.exchange.new.seat.me
    c.pop.new.self.items c.args.handles.now.items c.in-Some.handle c.in-Some.ensures.items
    c.exchange.ensures.3 c.requires.holds)

pub returns-clause-holds : goal.returns-clause-holds
returns-clause-holds c =
    dealt c.args.lane c.args.token.now.me c.exchange.new.seat.me c.give_back.new.token.me
    c.pop.new.self.items c.args.handles.now.items c.in-Some.handle c.in-Some.ensures.items
    c.exchange.ensures.3 c.requires.holds c.give_back.ensures.given.1
