use Rattle.std.proofs.Common.{refl, subst, subst₂, sym}
use Rattle.nb_map.proofs.WholeWalk.{gone-mine, walked-up-to}
use Rattle.nb_map.specs.Maps.{IsMine, SeatOf}
use Rattle.nb_map.specs.inside.Models.{map_within, seat_of}
use Rattle.nb_map.specs.declared.steps.walk.Place.TheVariants.{End}
use Rattle.nb_map.proofs.map.Map.next_key_from.Goals as goal
use Rattle.nb_map.proofs.map.Map.next_key_from.Goals.{After-next_from}

-- the seat after the call, as it is inside
abbrev after : After-next_from → SeatOf
after c = record { chain = c.next_from.new.seat; count = c.seat.inside.count }

pub returns-clause-own : goal.returns-clause-own
returns-clause-own c =
    let mine = subst₂ IsMine (sym c.self.view_is) (sym c.seat.view_is) c.requires.own in
    subst (λ map. IsMine map (after c)) c.self.view_is
    (gone-mine (map_within c.self.inside) {before = seat_of c.seat.inside} {after = after c} mine refl
    c.next_from.ensures.gone)

pub returns-clause-walked : goal.returns-clause-walked
returns-clause-walked c =
    let next = c.next_from in
    walked-up-to {after = after c} c.self.view_is c.seat.view_is c.requires.own refl End
    c.args.at.now next.new.place next.result next.ensures.gone next.ensures.place
    next.ensures.ahead (λ never. absurd never) next.ensures.ended
