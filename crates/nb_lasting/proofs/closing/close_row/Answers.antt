use Rattle.std.proofs.Common.{◌∙◌, ◌≤◌, length, refl, subst, sym}
use Rattle.nb_lasting.specs.Shared.{FitsLanes}
use Rattle.nb_lasting.proofs.Closed.{have-ended, whole-seats}
use Rattle.nb_lasting.proofs.Dealt.{all-single, single-map}
use Rattle.nb_lasting.proofs.Joined.{never-both}
use Rattle.nb_lasting.proofs.closing.close_row.Goals as goal

pub join_handles-whole-requires : goal.join_handles-whole-requires
join_handles-whole-requires g c = record {
  single = all-single (length c.args.guests.items) c.take_all_as_guests-handles.new.token.me.0.map
      c.take_all_as_guests-handles.new.token.me.0.filled c.take_all_as_guests-handles.new.token.me.0.past
      c.take_all_as_guests-handles.ensures.gathered.holds.knew c.take_all_as_guests-handles.result.items
      (subst (λ n. 1 ≤ n) (sym c.requires.all.count) c.args.hall.now.some)
      (subst (λ n. n ≤ 256) (sym c.requires.all.count) c.args.hall.now.few)
      c.take_all_as_guests-handles.ensures.gathered.holds.held;
}

pub unreachable-requires : goal.unreachable-requires
unreachable-requires g c =
    let some = subst (λ n. 1 ≤ n) (sym c.requires.all.count) c.args.hall.now.some in
    let few = subst (λ n. n ≤ 256) (sym c.requires.all.count) c.args.hall.now.few in
    let seated = subst (λ n. FitsLanes n c.take_all_as_guests-handles.new.token.me.0)
    (sym c.requires.all.count) (c.take_all_as_guests-handles.ensures.seated some) in
    let holds = c.take_all_as_guests-handles.ensures.gathered.holds in
    let me = c.take_all_as_guests-handles.new.token.me in
    let handles = c.take_all_as_guests-handles.result.items in
    let n = length c.args.guests.items in
    never-both c.close.result c.in-Err.field-0 c.in-Err.is
    (c.close.ensures.all.1
    (whole-seats n me handles c.join_handles-whole.result.0 holds seated c.join_handles-whole.ensures.seats
    (c.join_handles-whole.ensures.map
    (all-single n me.0.map me.0.filled me.0.past holds.knew handles some few holds.held)
    ∙ single-map n me.0.map me.0.filled me.0.past holds.knew handles some few holds.held)))

pub returns : goal.returns
returns g c =
    let some = subst (λ n. 1 ≤ n) (sym c.requires.all.count) c.args.hall.now.some in
    let seated = subst (λ n. FitsLanes n c.take_all_as_guests-handles.new.token.me.0)
    (sym c.requires.all.count) (c.take_all_as_guests-handles.ensures.seated some) in
    have-ended (length c.args.guests.items) c.args.guests.items c.take_all_as_guests-handles.new.token.me
    c.take_all_as_guests-handles.result.items c.join_handles-whole.result.0 c.in-Ok.ended
    c.take_all_as_guests-handles.ensures.gathered seated some refl c.join_handles-whole.ensures.seats
    c.in-Ok.ensures.ended
