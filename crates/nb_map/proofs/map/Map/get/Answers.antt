use Rattle.std.proofs.Common.{refl, subst₂, sym}
use Rattle.nb_map.proofs.Counted.{uncounted-mine}
use Rattle.nb_map.proofs.Logged.{logged, worked-uncounted}
use Rattle.nb_map.specs.Maps.{IsMine, SeatOf}
use Rattle.nb_map.specs.Promises.{HasGot}
use Rattle.nb_map.proofs.map.Map.get.Goals as goal

pub returns : goal.returns
returns c =
    let mine = subst₂ IsMine (sym c.self.view_is) (sym c.seat.view_is) c.requires.own in
    let after : SeatOf = record { chain = c.get_in.new.seat; count = c.seat.inside.count } in
    subst₂ (λ map before. HasGot map c.args.key before after c.get_in.result) c.self.view_is
    c.seat.view_is
    (record {
      replied = logged {after = after} mine c.get_in.ensures.made;
      worked = worked-uncounted {after = after} c.get_in.ensures.made refl;
      short = c.get_in.ensures.short;
      own = uncounted-mine {after = after} mine c.get_in.ensures.made refl refl;
    })
