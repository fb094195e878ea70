use Rattle.std.proofs.Common.{refl, subst}
use Rattle.nb_map.proofs.Look.{top-kept}
use Rattle.nb_map.proofs.WholeWalk.{begun-walk}
use Rattle.nb_map.specs.Promises.{HasBegunWalk}
use Rattle.nb_map.specs.Walks.IsUnderway.{Begun}
use Rattle.nb_map.specs.declared.steps.walk.Place.TheVariants.{Slot}
use Rattle.nb_map.proofs.map.Map.walk_from_top.Goals as goal

pub returns : goal.returns
returns c =
    let m = c.args.self.now in
    let seat = c.generation-first.new.seat in
    let looked = c.generation-first.ensures in
    subst (λ first. HasBegunWalk m c.args.seat.now seat
    (record { begun = seat; first = first; place = Slot first 0 })) looked.found
    (record {
      begun = refl;
      is_walk = begun-walk m looked.own;
      underway = Begun looked.own;
      top = top-kept looked;
    })
