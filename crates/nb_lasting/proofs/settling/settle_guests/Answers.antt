use Rattle.std.proofs.Common.{◌∙◌, ◌≤◌, ℕ, List, [], ap, length, map, refl, subst, sym, arith}
use Rattle.nb_core.specs.Log.{log_of}
use Rattle.nb_core.specs.declared.events.Event.{Event}
use Rattle.nb_lasting.specs.Guests.{GoesOnTo, GuestOf, with_log}
use Rattle.nb_lasting.specs.Settling.{CanSettle}
use Rattle.nb_lasting.specs.Shared.{FitsLanes}
use Rattle.nb_lasting.proofs.Counted.{if-ok, still-by, still-holds}
use Rattle.nb_lasting.proofs.Dealt.{all-of-map, held-knew, held-still, still-dealt, still-single}
use Rattle.nb_lasting.proofs.Renewed.{AreCountedIn}
use Rattle.nb_lasting.proofs.Settled.{can-settle, have-settled, settled-log}
use Rattle.nb_lasting.proofs.settling.settle_guests.Goals as goal

pub counted-handles-requires : goal.counted-handles-requires
counted-handles-requires g c =
    let n = length c.args.guests.now in
    let some : 1 ≤ n = omega (arith, c.requires.all.count, c.args.hall.now.some) in
    let few : n ≤ 256 = omega (arith, c.requires.all.count, c.args.hall.now.few) in
    record {
      single = still-single n c.lend_all.new.token.me c.in_ok-handles.handles.items some few
          (held-still n c.lend_all.new.token.me c.in_ok-handles.handles.items
          c.in_ok-handles.ensures.gathered.holds);
      all = all-of-map n c.lend_all.new.token.me c.in_ok-handles.handles.items some
          (subst (λ k. FitsLanes k c.lend_all.new.token.me.0) (sym c.requires.all.count)
          c.in_ok-handles.ensures.seated)
          (held-still n c.lend_all.new.token.me c.in_ok-handles.handles.items
          c.in_ok-handles.ensures.gathered.holds);
    }

pub settle_all-requires-clause-can : goal.settle_all-requires-clause-can
settle_all-requires-clause-can g c =
    let n = length c.args.guests.now in
    let me = c.lend_all.new.token.me in
    let before = c.in_ok-handles.handles.items in
    let after = c.counted-handles.result.0.items in
    let some : 1 ≤ n = omega (arith, c.requires.all.count, c.args.hall.now.some) in
    let few : n ≤ 256 = omega (arith, c.requires.all.count, c.args.hall.now.few) in
    let holds = held-still n me before c.in_ok-handles.ensures.gathered.holds in
    let known = still-by n me before after some few holds c.counted-handles.result.1
    c.counted-handles.ensures in
    let counts = if-ok c.counted-handles.result.1 c.in-Ok.size
    (AreCountedIn me.0.map known.0.know before after) c.in-Ok.is known.1 in (
      settled-log n me before after c.in-Ok.size some holds known.0 counts,
      subst (λ (gs : List GuestOf). CanSettle
          (settled-log n me before after c.in-Ok.size some holds known.0 counts)
          (length gs) me after)
          (sym c.in_ok-handles.ensures.same)
          (can-settle n me before after c.in-Ok.size some holds known.0 counts),
    )

pub deal_all-requires-clause-holds : goal.deal_all-requires-clause-holds
deal_all-requires-clause-holds g c =
    let n = length c.args.guests.now in
    let me = c.lend_all.new.token.me in
    let before = c.in_ok-handles.handles.items in
    let after = c.counted-handles.result.0.items in
    let some : 1 ≤ n = omega (arith, c.requires.all.count, c.args.hall.now.some) in
    let few : n ≤ 256 = omega (arith, c.requires.all.count, c.args.hall.now.few) in
    let holds = held-still n me before c.in_ok-handles.ensures.gathered.holds in
    let known = still-by n me before after some few holds c.counted-handles.result.1
    c.counted-handles.ensures in
    still-dealt n me after (still-holds n me before after some few holds known.0)

pub returns-in-Ok-clause-settled : goal.returns-in-Ok-clause-settled
returns-in-Ok-clause-settled g c =
    let n = length c.args.guests.now in
    let me = c.lend_all.new.token.me in
    let before = c.in_ok-handles.handles.items in
    let after = c.counted-handles.result.0.items in
    let some : 1 ≤ n = omega (arith, c.requires.all.count, c.args.hall.now.some) in
    let few : n ≤ 256 = omega (arith, c.requires.all.count, c.args.hall.now.few) in
    let have = c.in_ok-handles.ensures.gathered in
    let holds = held-still n me before have.holds in
    let known = still-by n me before after some few holds c.counted-handles.result.1
    c.counted-handles.ensures in
    let counts = if-ok c.counted-handles.result.1 c.in-Ok.size
    (AreCountedIn me.0.map known.0.know before after) c.in-Ok.is known.1 in
    let whole = settled-log n me before after c.in-Ok.size some holds known.0 counts in
    let can = subst (λ (gs : List GuestOf). CanSettle whole (length gs) me after)
    (sym c.in_ok-handles.ensures.same)
    (can-settle n me before after c.in-Ok.size some holds known.0 counts) in
    have-settled n me before after c.in-Ok.size some holds known.0 counts c.args.guests.now
    c.settle_all.new.guests refl
    (subst (λ k. FitsLanes k me.0) (sym c.requires.all.count)
    c.in_ok-handles.ensures.seated)
    (λ i guest at.
    let was = have.current i guest at in (
      was.0,
      subst (λ (knew : ℕ → List Event). GoesOnTo guest (log_of (knew i)) [])
          (sym (held-knew n me before have.holds)) was.1,
    ))
    (c.settle_all.ensures.settled whole can
    ∙ ap (map (with_log whole)) c.in_ok-handles.ensures.same)
