use Rattle.std.proofs.Common.{◌≡◌, ◌∙◌, ◌+◌, List, Some, ap, arith, subst, sym}
use Rattle.atomic_table.specs.Table.{Me}
use Rattle.nb_core.specs.Log.{Entry, IsReplayed, log_of}
use Rattle.nb_map.specs.Handles.{HandleOf}
use Rattle.std.specs.Prelude.{Option}
use Rattle.nb_lasting.specs.Guests.{GuestOf, with_log}
use Rattle.nb_lasting.specs.Settling.{CanSettle}
use Rattle.nb_lasting.specs.declared.shared.Account.{Account}
use Rattle.nb_lasting.specs.declared.shared.LaneView.{LaneView}
use Rattle.nb_lasting.specs.inside.Guests.{guest_of}
use Rattle.nb_lasting.proofs.Settled.{handed-settle, settled-replayed, taken-settle}
use Rattle.nb_lasting.proofs.guest.Guest.settle.Goals as goal

pub invariant_of-self : goal.invariant_of-self
invariant_of-self c =
    let guest : c.become_guest-2.new.token.me.0.guest ≡ Some c.self.inside.lane =
    ap (λ (m : Me (Option HandleOf) LaneView). m.0.guest) c.become_guest-2.ensures.guest
    ∙ ap (λ (m : Me (Option HandleOf) LaneView). m.0.guest) c.hand_on-own-2.ensures.guest
    ∙ c.give_last.ensures.guest in
    let seen : log_of c.become_guest-2.new.token.me.0.seen
    ≡ log_of c.give_last.new.token.me.0.seen =
    ap (λ (m : Me (Option HandleOf) LaneView). log_of m.0.seen) c.become_guest-2.ensures.guest
    ∙ ap (λ (m : Me (Option HandleOf) LaneView). log_of m.0.seen) c.hand_on-own-2.ensures.guest in
    let whole = c.requires.can.0 in
    let can = subst (λ (guest : GuestOf). CanSettle whole (guest.number + 1) c.args.token.now.me
    c.args.handles.now.items) (sym c.self.view_is) c.requires.can.1 in
    let taken = taken-settle whole (c.self.inside.lane + 1) c.args.token.now.me
    c.become_guest.new.token.me c.hand_on-own.result.me.0 c.args.handles.now.items
    c.become_guest.ensures.guest can in
    record {
      table = c.become_guest-2.ensures.table ∙ c.hand_on-own.ensures.table.0
          ∙ c.self.invariant.table;
      lane = c.self.invariant.lane;
      idle = record {
        guest = guest;
        outs = ap (λ (m : Me (Option HandleOf) LaneView). m.0.outs) c.become_guest-2.ensures.guest
            ∙ ap (λ (m : Me (Option HandleOf) LaneView). m.0.outs) c.hand_on-own.ensures.left
            ∙ c.self.invariant.idle.outs;
        slots = ap (λ (m : Me (Option HandleOf) LaneView). m.1) c.become_guest-2.ensures.guest
            ∙ ap (λ (m : Me (Option HandleOf) LaneView). m.1) c.hand_on-own.ensures.left
            ∙ c.self.invariant.idle.slots;
      };
      replayed = subst IsReplayed (sym (seen ∙ (c.give_last.ensures.settled whole taken).1))
          (settled-replayed whole (c.self.inside.lane + 1) c.self.inside.lane c.args.token.now.me
          c.args.handles.now.items (omega arith) can);
    }

pub returns-clause-settled : goal.returns-clause-settled
returns-clause-settled c =
    let after = λ (log : List Entry) (account : Account).
    record (guest_of c.self.inside) { log = log; account = account } in
    let then = c.become_guest-2.new.token.me.0 in
    let kept : then.account ≡ c.self.inside.token.me.0.account =
    ap (λ (m : Me (Option HandleOf) LaneView). m.0.account) c.become_guest-2.ensures.guest
    ∙ ap (λ (m : Me (Option HandleOf) LaneView). m.0.account) c.hand_on-own.ensures.left in
    subst (λ (guest : GuestOf). (whole : List Entry)
    → CanSettle whole (guest.number + 1) c.args.token.now.me c.args.handles.now.items
    → CanSettle whole guest.number c.hand_on-own-2.new.token.me c.give_last.new.handles.items
    × (after (log_of then.seen) then.account ≡ with_log whole guest))
    c.self.view_is
    (λ whole can.
    let taken = taken-settle whole (c.self.inside.lane + 1) c.args.token.now.me
    c.become_guest.new.token.me c.hand_on-own.result.me.0 c.args.handles.now.items
    c.become_guest.ensures.guest can in
    let given = c.give_last.ensures.settled whole taken in
    let seen : log_of c.become_guest-2.new.token.me.0.seen
    ≡ log_of c.give_last.new.token.me.0.seen =
    ap (λ (m : Me (Option HandleOf) LaneView). log_of m.0.seen) c.become_guest-2.ensures.guest
    ∙ ap (λ (m : Me (Option HandleOf) LaneView). log_of m.0.seen) c.hand_on-own-2.ensures.guest in (
      handed-settle whole c.self.inside.lane c.give_last.new.token.me c.hand_on-own-2.new.token.me
          c.give_last.new.handles.items c.hand_on-own-2.ensures.left given.0,
      ap (λ (l : List Entry). after l then.account) (seen ∙ given.1) ∙ ap (after whole) kept,
    ))
