use Rattle.std.proofs.Common.{◌<◌, refl, subst, subst₂, sym}
use Rattle.nb_core.specs.Plans.{size_of}
use Rattle.nb_table.proofs.Theorems.{steps_add_up}
use Rattle.nb_map.proofs.There.{key-found, looks}
use Rattle.nb_map.specs.Maps.{IsMine, MapOf, SeatOf}
use Rattle.nb_map.specs.Slots.{HasFoundKey, IsKeyOfSlot}
use Rattle.nb_map.proofs.map.Map.key_at.Goals as goal

pub returns : goal.returns
returns c =
    let mine = subst₂ IsMine (sym c.self.view_is) (sym c.seat.view_is) c.requires.own in
    let m : MapOf = record { chain = c.self.inside.chain; counter = c.self.inside.counter } in
    let after : SeatOf = record { chain = c.load_key.new.seat; count = c.seat.inside.count } in
    subst₂ (λ map before. HasFoundKey map c.args.slot before after c.key_of.result) c.self.view_is
    c.seat.view_is
    (record {
      key = subst (IsKeyOfSlot m after c.args.slot) (sym c.key_of.ensures)
          (key-found m after c.args.slot c.load_key.result
          (subst (λ map. c.args.slot < size_of map.chain.shape 0) (sym c.self.view_is)
          c.requires.slot)
          c.load_key.ensures.found);
      looked = looks {after = after} mine (steps_add_up.one c.load_key.ensures.grows) refl;
    })
