use Rattle.std.proofs.Common.{refl, subst₂, sym}
use Rattle.nb_map.proofs.There.{got-there}
use Rattle.nb_map.specs.Maps.{IsMine, SeatOf}
use Rattle.nb_map.specs.Slots.{HasGotAt, KeyHasSlot}
use Rattle.nb_map.proofs.map.Map.get_at.Goals as goal

pub returns : goal.returns
returns c =
    let mine = subst₂ IsMine (sym c.self.view_is) (sym c.seat.view_is) c.requires.own in
    let has = subst₂ (λ map seat. KeyHasSlot map seat c.args.slot c.args.key) (sym c.self.view_is)
    (sym c.seat.view_is) c.requires.slot in
    let after : SeatOf = record { chain = c.get_there.new.seat; count = c.seat.inside.count } in
    subst₂ (λ map before. HasGotAt map c.args.slot c.args.key before after c.get_there.result)
    c.self.view_is c.seat.view_is (got-there {after = after} mine has c.get_there.ensures refl)
