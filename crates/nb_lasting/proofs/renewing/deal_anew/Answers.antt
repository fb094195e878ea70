use Rattle.std.proofs.Common.{◌∙◌, ap, arith, length, slice_get}
use Rattle.std.specs.Prelude.{None}
use Rattle.nb_lasting.proofs.Dealt.{begun, begun-account, begun-map, can-renew, slot_is, snoc_last}
use Rattle.nb_lasting.proofs.Giving.{may-renew}
use Rattle.nb_lasting.proofs.renewing.deal_anew.Goals as goal

pub exchange-requires : goal.exchange-requires
exchange-requires c =
    (c.requires.table, (None, slot_is c.args.lane c.args.token.now.me c.requires.holds.slots))

pub give_back-requires-clause-may : goal.give_back-requires-clause-may
give_back-requires-clause-may c =
    may-renew c.args.hall.now.table.shared.key c.args.hall.now.table.shared.table_id.slots c.args.lane c.exchange.new.seat.id
    c.exchange.new.seat.me (omega (arith, c.requires.lane))
    (can-renew c.args.lane c.args.token.now.me c.exchange.new.seat.me c.exchange.new.seat.me
    c.pop.new.self.items c.args.handles.now.items c.in-Some.handle c.in-Some.ensures.items
    c.exchange.ensures.3 c.args.hall.now.table.shared.key c.requires.lane c.requires.holds)

pub returns-clause-map : goal.returns-clause-map
returns-clause-map c can =
    begun-map c.args.lane c.args.token.now.me c.exchange.new.seat.me c.give_back.new.token.me
    c.pop.new.self.items c.args.handles.now.items c.in-Some.handle c.in-Some.ensures.items
    c.exchange.ensures.3 c.args.hall.now.table.shared.key.keys can c.give_back.ensures.given.1

pub returns-clause-holds : goal.returns-clause-holds
returns-clause-holds c =
    begun c.args.lane c.args.token.now.me c.exchange.new.seat.me c.give_back.new.token.me
    c.pop.new.self.items c.args.handles.now.items c.in-Some.handle c.in-Some.ensures.items
    c.exchange.ensures.3 c.args.hall.now.table.shared.key.keys c.requires.holds c.give_back.ensures.given.1

pub returns-clause-begun : goal.returns-clause-begun
returns-clause-begun c = record {
  first = c.in-Some.handle;
  place = length c.pop.new.self.items;
  there = ap (λ l. slice_get l (length c.pop.new.self.items)) c.in-Some.ensures.items
      ∙ snoc_last c.pop.new.self.items c.in-Some.handle;
  account = begun-account c.args.lane c.args.token.now.me c.exchange.new.seat.me
      c.give_back.new.token.me c.pop.new.self.items c.args.handles.now.items c.in-Some.handle
      c.in-Some.ensures.items c.exchange.ensures.3 c.give_back.ensures.given.1;
}
