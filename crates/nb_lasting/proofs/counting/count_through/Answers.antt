use Rattle.std.proofs.Common.{◌≡◌, ◌∙◌, Some, ap, inl, inr, length, slice_get, subst, sym}
use Rattle.std.specs.FinMap as numbers
use Rattle.std.specs.Prelude.{Option}
use Rattle.atomic_table.specs.Table.{Me}
use Rattle.nb_core.specs.Log.{log_of, map_of_log}
use Rattle.nb_map.specs.Handles.{HandleOf, seats_of}
use Rattle.nb_map.specs.Settling.{HaveSettled}
use Rattle.nb_lasting.specs.Visits.{HasCountedByAll}
use Rattle.nb_lasting.specs.declared.shared.LaneView.{LaneView}
use Rattle.nb_lasting.specs.inside.Guests.{hall_of}
use Rattle.nb_lasting.proofs.Counted.{called-home, can-come-home, if-ok, ok-by, size-home, still-by}
use Rattle.nb_lasting.proofs.Dealt.{all-of-map, held-still, still-single}
use Rattle.nb_lasting.proofs.Going.{back-seen, taken-all}
use Rattle.nb_lasting.proofs.Homes.{home-seen}
use Rattle.nb_lasting.proofs.Renewed.{mapped-at}
use Rattle.nb_lasting.proofs.counting.count_through.Goals as goal

pub counted-handles-requires : goal.counted-handles-requires
counted-handles-requires g c =
    let n = c.args.hall.now.table.shared.key.seats in
    let me = c.take_all_handles.new.token.me in
    let before = c.in_ok-handles.handles.items in
    let holds = held-still n me before c.in_ok-handles.ensures.holds in
    record {
      single = still-single n me before c.args.hall.now.some c.args.hall.now.few holds;
      all = all-of-map n me before c.args.hall.now.some c.in_ok-handles.ensures.seated holds;
    }

pub all_home-requires-clause-holds : goal.all_home-requires-clause-holds
all_home-requires-clause-holds g c =
    let n = c.args.hall.now.table.shared.key.seats in
    let me = c.take_all_handles.new.token.me in
    let before = c.in_ok-handles.handles.items in
    let after = c.counted-handles.result.0.items in
    let holds = held-still n me before c.in_ok-handles.ensures.holds in
    let some = c.args.hall.now.some in
    let few = c.args.hall.now.few in
    let still = (still-by n me before after some few holds c.counted-handles.result.1
    c.counted-handles.ensures).0 in (
      log_of (still.know c.args.lane),
      can-come-home n me before after some few holds still c.args.lane
          (c.take_all_handles.ensures.guest.guest ∙ c.requires.idle.guest) c.requires.lane,
    )

pub returns-in_err-handles-clause-round : goal.returns-in_err-handles-clause-round
returns-in_err-handles-clause-round g c =
    inl (ap (λ (m : Me (Option HandleOf) LaneView). m.0.account) c.in_err-handles.ensures.kept)

pub returns : goal.returns
returns g c =
    let n = c.args.hall.now.table.shared.key.seats in
    let me = c.take_all_handles.new.token.me in
    let then = c.all_home.new.token.me.0 in
    let before = c.in_ok-handles.handles.items in
    let after = c.counted-handles.result.0.items in
    let result = c.counted-handles.result.1 in
    let is = c.counted-handles.ensures in
    let home = c.all_home.ensures.home in
    let some = c.args.hall.now.some in
    let few = c.args.hall.now.few in
    let guest = c.take_all_handles.ensures.guest.guest ∙ c.requires.idle.guest in
    let holds = held-still n me before c.in_ok-handles.ensures.holds in
    let still = (still-by n me before after some few holds result is).0 in
    let taken = taken-all (hall_of c.args.hall.now) c.args.token.now.me.0.account me before
    c.in_ok-handles.ensures.holds c.in_ok-handles.ensures.taken in
    let seat = mapped-at is.whole.map (seats_of is.whole) c.args.lane home.0
    (ap (λ hs. slice_get hs c.args.lane) (sym is.parted) ∙ home.1) in
    record {
      table = c.all_home.ensures.table ∙ c.take_all_handles.ensures.table;
      idle = c.all_home.ensures.idle;
      called = called-home n me before after some few holds still c.args.lane guest
          c.requires.lane c.args.token.now.me.0 c.take_all_handles.ensures.guest.seen then
          c.all_home.ensures.seen;
      round = inr (
        before,
        me.0.account,
        taken,
        back-seen c.args.lane n me before then.account c.requires.lane
            c.in_ok-handles.ensures.holds
            (home-seen me.0.map me.0.filled me.0.past n holds.knew after c.args.lane me.0.account
            then.account still home),
      );
      counted = ok-by result
          (HasCountedByAll c.args.lane (hall_of c.args.hall.now) c.args.token.now.me.0.account
          then.account)
          (λ size counted. record {
            handles = before;
            then = me.0.account;
            taken = taken;
            counted = is.joined.map;
            seats = seats_of is.whole;
            settled = subst (λ seats. HaveSettled is.joined.map seats (seats_of is.whole) size)
                is.seats
                (if-ok result size
                (HaveSettled is.joined.map (seats_of is.joined) (seats_of is.whole)) counted
                is.settled);
            back = home.0;
            own = seat.1 ∙ ap (λ (h : HandleOf). Some h.seat) (sym seat.2);
            account = home.2;
          });
      size = ok-by result (λ size. size ≡ length (numbers.entries (map_of_log (log_of then.seen))))
          (λ size counted.
          size-home n me before after some few holds result is size counted c.args.lane guest
          c.requires.lane then c.all_home.ensures.seen);
    }
