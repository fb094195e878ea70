use Rattle.std.proofs.Common.{◌≡◌, ◌∙◌, [], ap, length, refl, subst, sym, arith}
use Rattle.std.proofs.lemmas.List.{nil_from_length}
use Rattle.std.specs.Vec.Iter.{into_iter_items}
use Rattle.nb_lasting.specs.Holding.{IsIdleGuest}
use Rattle.nb_lasting.proofs.Closed.{all-come, more-come, next-number, none-gathered}
use Rattle.nb_lasting.proofs.Dealt.{holds-none}
use Rattle.nb_lasting.proofs.closing.take_all_as_guests.Goals as goal

pub loop-guest-init : goal.loop-guest-init
loop-guest-init g c = (
  tt,
  tt,
  refl,
  c.requires.room.1,
  (λ some. absurd (omega (arith, some, ap length c.requires.room.0))),
  record {
    done = [];
    parts = sym c.into_iter-guest-iterator.ensures.into_iter_gives.0;
    count = ap length c.requires.room.0;
    gathered = none-gathered c.args.token.now.me c.args.room.items
        (holds-none c.args.token.now.me c.args.room.items c.requires.room.0 c.requires.idle);
  },
)

pub take_handle_as_guest-requires-clause-guest : goal.take_handle_as_guest-requires-clause-guest
take_handle_as_guest-requires-clause-guest g c =
    subst (λ n. IsIdleGuest n c.into_token.result.me)
    (next-number c.args.guests.items (into_iter_items c.loop-guest.guest-iterator)
    (into_iter_items c.next.new.self) c.in-Some.guest c.loop-guest.token.me
    c.loop-guest.handles.items
    c.loop-guest.invariant.5 c.in-Some.ensures.steps.0 c.requires.all.numbered
    ∙ (let here : length c.loop-guest.handles.items ≡ c.len-lane.result =
    omega (arith, c.len-lane.ensures, c.loop-guest.handles.ok) in here)) c.into_token.ensures.idle

pub loop-guest-preserved : goal.loop-guest-preserved
loop-guest-preserved g c =
    let number = next-number c.args.guests.items (into_iter_items c.loop-guest.guest-iterator)
    (into_iter_items c.next.new.self) c.in-Some.guest c.loop-guest.token.me
    c.loop-guest.handles.items
    c.loop-guest.invariant.5 c.in-Some.ensures.steps.0 c.requires.all.numbered in
    let here : c.len-lane.result ≡ length c.loop-guest.handles.items =
    omega (arith, c.len-lane.ensures, c.loop-guest.handles.ok) in (
      tt,
      tt,
      c.take_handle_as_guest.ensures.table ∙ c.loop-guest.invariant.2,
      omega (arith, c.loop-guest.invariant.3, c.take_handle_as_guest.ensures.room),
      (λ some. c.take_handle_as_guest.ensures.seated),
      more-come c.args.guests.items (into_iter_items c.loop-guest.guest-iterator)
          (into_iter_items c.next.new.self) c.in-Some.guest c.into_token.result.me.0.seen
          c.len-lane.result c.loop-guest.token.me c.take_handle_as_guest.new.token.me
          c.loop-guest.handles.items c.take_handle_as_guest.new.handles.items c.loop-guest.invariant.5
          c.in-Some.ensures.steps.0 here number c.into_token.ensures.seen
          c.take_handle_as_guest.ensures.gathered,
    )

pub returns-clause-gathered : goal.returns-clause-gathered
returns-clause-gathered g c =
    all-come c.args.guests.items (into_iter_items c.loop-guest.guest-iterator) c.loop-guest.token.me
    c.loop-guest.handles.items c.loop-guest.invariant.5
    (nil_from_length (into_iter_items c.loop-guest.guest-iterator)
    (omega (arith, c.in-None.ensures.steps.0, c.loop-guest.guest-iterator.rest.ok)))
