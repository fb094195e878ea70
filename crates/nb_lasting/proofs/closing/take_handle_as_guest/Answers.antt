use Rattle.std.proofs.Common.{◌∙◌, ◌∷◌, Some, ap, subst, sym}
use Rattle.atomic_table.specs.Table.{rest}
use Rattle.nb_lasting.specs.Closing.{HasGathered}
use Rattle.nb_lasting.proofs.Calling.{slot-rest}
use Rattle.nb_lasting.proofs.Dealt.{gathered-from}
use Rattle.nb_lasting.proofs.closing.take_handle_as_guest.Goals as goal

pub exchange-requires : goal.exchange-requires
exchange-requires g c = (
  c.hold.ensures.table ∙ (c.become_guest.ensures.table ∙ c.requires.table.0),
  (
    Some c.hold.ensures.taken.handle,
    slot-rest c.args.lane (Some c.hold.ensures.taken.handle) c.hold.new.token.me.1
        c.become_guest.new.token.me.1 c.hold.ensures.taken.slots,
  ),
)

pub returns-clause-gathered : goal.returns-clause-gathered
returns-clause-gathered g c holds =
    subst (λ xs. HasGathered c.args.lane c.args.guest.me.0.seen holds.knew c.exchange.new.seat.me
    xs)
    (sym c.push_reserved.ensures.items)
    (gathered-from c.args.lane c.args.token.now.me c.become_guest.new.token.me c.hold.new.token.me
    c.exchange.new.seat.me c.args.guest.me c.args.handles.now.items c.in-Some.handle
    c.requires.guest c.become_guest.ensures.guest c.hold.ensures.taken
    (c.exchange.ensures.2 ∙ ap (λ y. (c.args.lane, y) ∷ rest c.hold.new.token.me.1) c.in-Some.is)
    c.exchange.ensures.3 holds)
