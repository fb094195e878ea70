use Rattle.std.proofs.Common.{◌≡◌, ◌∙◌, All, ap, arith, length, map, refl, subst, sym}
use Rattle.std.proofs.lemmas.List.{length-map}
use Rattle.std.proofs.lemmas.List.Elements.{All-map}
use mathlib.Core.List.{map-map}
use Rattle.nb_core.proofs.Seating.{all-moved, moved-count, moved-more, none-moved}
use Rattle.nb_map.specs.Handles as handles
use Rattle.nb_set.specs.Handles.{as_handle, handle_on, seats_of}
use Rattle.nb_set.proofs.handle.Handle.split_all.Goals as goal

pub loop-map-init : goal.loop-map-init
loop-map-init c = (
  tt,
  tt,
  none-moved (sym (ap (λ handle. map (handle_on handle.set) (seats_of handle)) c.self.view_is)
      ∙ sym (map-map as_handle (handles.handle_on c.self.inside.map.map)
      (handles.seats_of c.self.inside.map))
      ∙ ap (map as_handle) (sym c.in-Ok-split_all.ensures.split
      ∙ sym c.into_iter-map-iterator.ensures.into_iter_gives.0)) c.in-Ok.ensures.items,
  omega (arith, c.in-Ok.ensures.capacity, c.seats.ensures),
)

pub push_reserved-requires : goal.push_reserved-requires
push_reserved-requires c =
    let self = c.args.self in
    let many = moved-count c.loop-map.invariant.2
    ∙ length-map (seats_of self) (handle_on self.set) in
    let next = ap length c.in-Some.ensures.steps.0 in
    omega (arith, many, next, c.loop-map.invariant, c.loop-map.handles.ok)

pub loop-map-preserved : goal.loop-map-preserved
loop-map-preserved c = (
  tt,
  tt,
  moved-more c.loop-map.invariant.2 c.in-Some.ensures.steps.0 refl c.push_reserved.ensures.items,
  omega (arith, c.loop-map.invariant.3, c.push_reserved.ensures.capacity),
)

pub returns-in-None-clause-split : goal.returns-in-None-clause-split
returns-in-None-clause-split c =
    all-moved c.loop-map.invariant.2
    (omega (arith, c.in-None.ensures.steps, c.loop-map.map-iterator.rest.ok))

pub returns-in-None-clause-one : goal.returns-in-None-clause-one
returns-in-None-clause-one c =
    let set = c.args.self.set in
    subst (All (λ handle. handle.set ≡ set)) (sym (returns-in-None-clause-split c))
    (All-map (λ handle. handle.set ≡ set) (handle_on set) (seats_of c.args.self)
    (λ i d within. refl))
