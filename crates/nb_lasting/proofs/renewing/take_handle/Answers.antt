use Rattle.std.proofs.Common.{◌∙◌, ◌∷◌, ◌+◌, Some, ap, refl, subst, sym}
use Rattle.std.specs.Prelude.{Option}
use Rattle.atomic_table.specs.Table.{Me, rest}
use Rattle.nb_map.specs.Handles.{HandleOf}
use Rattle.nb_lasting.specs.Renewal.{HoldsBelow}
use Rattle.nb_lasting.specs.Visits.{took}
use Rattle.nb_lasting.specs.declared.shared.LaneView.{LaneView}
use Rattle.nb_lasting.proofs.Calling.{slot-rest, taken-is}
use Rattle.nb_lasting.proofs.Dealt.{gathered}
use Rattle.nb_lasting.proofs.renewing.take_handle.Goals as goal

pub exchange-requires : goal.exchange-requires
exchange-requires g c = (
  c.hold.ensures.table ∙ c.requires.table,
  (
    Some c.hold.ensures.taken.handle,
    slot-rest c.args.lane (Some c.hold.ensures.taken.handle) c.hold.new.token.me.1
        c.args.token.now.me.1 c.hold.ensures.taken.slots,
  ),
)

pub returns-clause-holds : goal.returns-clause-holds
returns-clause-holds g c =
    subst (λ xs. HoldsBelow (c.args.lane + 1) c.exchange.new.seat.me xs)
    (sym c.push_reserved.ensures.items)
    (gathered c.args.lane c.args.token.now.me c.hold.new.token.me c.args.handles.now.items
    c.in-Some.handle c.exchange.new.seat.me c.requires.holds c.hold.ensures.taken
    (c.exchange.ensures.2 ∙ ap (λ y. (c.args.lane, y) ∷ rest c.hold.new.token.me.1) c.in-Some.is)
    c.exchange.ensures.3)

pub returns-clause-taken : goal.returns-clause-taken
returns-clause-taken g c =
    let found = c.exchange.ensures.2
    ∙ ap (λ y. (c.args.lane, y) ∷ rest c.hold.new.token.me.1) c.in-Some.is in
    let same = taken-is c.args.lane c.args.token.now.me c.hold.new.token.me c.hold.ensures.taken
    (Some c.in-Some.handle) c.in-Some.handle found refl in
    record {
      handle = c.in-Some.handle;
      account = ap (λ (m : Me (Option HandleOf) LaneView). m.0.account) c.exchange.ensures.3
          ∙ c.hold.ensures.taken.account
          ∙ ap (λ h. took h c.args.token.now.me.0.account) same;
      all = c.push_reserved.ensures.items;
    }
