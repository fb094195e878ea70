use Rattle.std.specs.Prelude.{None}
use Rattle.nb_lasting.proofs.Dealt.{can-deal-else, can-give-own, come-else, come-own, dealt-account, given-account, slot_is}
use Rattle.nb_lasting.proofs.Giving.{may-deal, may-give}
use Rattle.nb_lasting.proofs.renewing.come_home.Goals as goal

pub exchange-requires : goal.exchange-requires
exchange-requires c =
    (c.requires.table, (None, slot_is c.args.lane c.args.token.now.me c.requires.holds.1.slots))

pub give_back-requires-clause-may : goal.give_back-requires-clause-may
give_back-requires-clause-may c =
    may-give c.args.hall.now.table.shared.key c.args.hall.now.table.shared.table_id.slots c.args.lane c.exchange.new.seat.id
    c.exchange.new.seat.me c.requires.lane
    (can-give-own c.args.lane c.args.token.now.me c.exchange.new.seat.me c.exchange.new.seat.me
    c.pop.new.self.items c.args.handles.now.items c.in-Some.handle c.in-Some.ensures.items
    c.exchange.ensures.3 c.args.own c.requires.holds.0 c.requires.holds.1 c.if-lane-own.true)

pub give_back-requires-else-lane-own-clause-may : goal.give_back-requires-else-lane-own-clause-may
give_back-requires-else-lane-own-clause-may c =
    may-deal c.args.hall.now.table.shared.key c.args.hall.now.table.shared.table_id.slots c.args.lane c.exchange.new.seat.id
    c.exchange.new.seat.me c.requires.lane
    (can-deal-else c.args.lane c.args.token.now.me c.exchange.new.seat.me c.exchange.new.seat.me
    c.pop.new.self.items c.args.handles.now.items c.in-Some.handle c.in-Some.ensures.items
    c.exchange.ensures.3 c.args.own c.requires.holds.0 c.requires.holds.1 c.if-lane-own.false)

pub returns-then-lane-own-clause-holds : goal.returns-then-lane-own-clause-holds
returns-then-lane-own-clause-holds c whole can =
    come-own c.args.lane c.args.token.now.me c.exchange.new.seat.me c.give_back.new.token.me
    c.pop.new.self.items c.args.handles.now.items c.in-Some.handle c.in-Some.ensures.items
    c.exchange.ensures.3 c.args.own whole can c.if-lane-own.true c.give_back.ensures.given.1

pub returns-else-lane-own-clause-holds : goal.returns-else-lane-own-clause-holds
returns-else-lane-own-clause-holds c whole can =
    come-else c.args.lane c.args.token.now.me c.exchange.new.seat.me c.give_back-else-lane-own.new.token.me
    c.pop.new.self.items c.args.handles.now.items c.in-Some.handle c.in-Some.ensures.items
    c.exchange.ensures.3 c.args.own whole can c.if-lane-own.false c.give_back-else-lane-own.ensures.given.1

pub returns-then-lane-own-clause-home : goal.returns-then-lane-own-clause-home
returns-then-lane-own-clause-home c = record {
  last = c.in-Some.handle;
  all = c.in-Some.ensures.items;
  given = λ same. given-account c.args.lane c.args.token.now.me c.exchange.new.seat.me
      c.give_back.new.token.me c.pop.new.self.items c.args.handles.now.items c.in-Some.handle
      c.in-Some.ensures.items c.exchange.ensures.3 c.give_back.ensures.given.1;
  dealt = λ other. absurd (other c.if-lane-own.true);
}

pub returns-else-lane-own-clause-home : goal.returns-else-lane-own-clause-home
returns-else-lane-own-clause-home c = record {
  last = c.in-Some.handle;
  all = c.in-Some.ensures.items;
  given = λ same. absurd (c.if-lane-own.false same);
  dealt = λ other. dealt-account c.args.lane c.args.token.now.me c.exchange.new.seat.me
      c.give_back-else-lane-own.new.token.me c.pop.new.self.items c.args.handles.now.items c.in-Some.handle
      c.in-Some.ensures.items c.exchange.ensures.3 c.give_back-else-lane-own.ensures.given.1;
}
