use Rattle.std.proofs.Common.{◌≡◌, ◌∙◌, ◌∷◌, [], All, Some, ap, length, length-append, map, refl, subst, sym, arith}
use Rattle.std.specs.Arc.{arc_value}
use Rattle.std.specs.Vec.Iter.{into_iter_items}
use Rattle.std.proofs.lemmas.List.{length-map}
use Rattle.std.proofs.lemmas.List.Elements.{All-map, All-pop}
use Rattle.nb_core.proofs.Seating.{AreMoved, all-moved, moved-count, moved-more, none-moved}
use Rattle.nb_long.proofs.Held.{with-stores}
use Rattle.nb_long.specs.Handles.{HandleOf, handle_on, seats_of, with_store}
use Rattle.nb_long.proofs.handle.Handle.split_all.Goals as goal

pub loop-map-init : goal.loop-map-init
loop-map-init g c =
    let numbers = c.self.inside.map in
    let store = arc_value c.self.inside.store in (
      tt,
      tt,
      subst (λ (whole : HandleOf). AreMoved (with_store whole.map.store)
          (map (handle_on whole.map) (seats_of whole)) c.in-Ok.handles.items
          (into_iter_items c.into_iter-map-iterator.result)) c.self.view_is
          (none-moved (with-stores numbers.map store (numbers.seat ∷ numbers.reserve)
          ∙ ap (map (with_store store)) (sym (c.into_iter-map-iterator.ensures.into_iter_gives.0
          ∙ c.in-Ok-split_all.ensures.split))) c.in-Ok.ensures.items),
      omega (arith, ap length c.in-Ok.ensures.items, c.in-Ok-clones.ensures.count, c.seats-2.ensures),
      subst (λ store. All (λ clone. arc_value clone ≡ store) c.in-Ok-clones.stores.items)
          (ap (λ handle. handle.map.store) c.self.view_is) c.in-Ok-clones.ensures.same,
      omega (arith, c.in-Ok.ensures.capacity, c.seats.ensures),
    )

pub unreachable-requires : goal.unreachable-requires
unreachable-requires g c =
    let inv = c.loop-map.invariant in
    omega (
      arith,
      inv.3,
      moved-count inv.2,
      length-map (seats_of c.args.self) (handle_on c.args.self.map),
      ap length c.in-Some.ensures.steps.0,
      c.in_default-pop.ensures,
    )

pub push_reserved-requires : goal.push_reserved-requires
push_reserved-requires g c =
    let inv = c.loop-map.invariant in
    omega (
      arith,
      c.loop-map.handles.ok,
      inv.5,
      moved-count inv.2,
      length-map (seats_of c.args.self) (handle_on c.args.self.map),
      ap length c.in-Some.ensures.steps.0,
    )

pub loop-map-preserved : goal.loop-map-preserved
loop-map-preserved g c =
    let inv = c.loop-map.invariant in
    let both = All-pop (λ store. arc_value store ≡ c.args.self.map.store) c.loop-map.stores.items
    c.pop.new.self.items (Some c.in-Some-pop.store) c.in-Some-pop.ensures.items inv.4 in (
      tt,
      tt,
      moved-more inv.2 c.in-Some.ensures.steps.0
          (ap (λ store. with_store store c.in-Some.map) (sym both.1)) c.push_reserved.ensures.items,
      omega (
        arith,
        inv.3,
        ap length c.push_reserved.ensures.items ∙ length-append c.loop-map.handles.items _,
        ap length c.in-Some-pop.ensures.items
            ∙ length-append c.pop.new.self.items (c.in-Some-pop.store ∷ []),
      ),
      both.0,
      omega (arith, inv.5, c.push_reserved.ensures.capacity),
    )

pub returns-clause-one : goal.returns-clause-one
returns-clause-one g c =
    let whole = c.args.self in
    let split = all-moved c.loop-map.invariant.2
    (omega (arith, c.in-None.ensures.steps, c.loop-map.map-iterator.rest.ok)) in
    subst (All (λ handle. handle.map ≡ whole.map)) (sym split)
    (All-map (λ handle. handle.map ≡ whole.map) (handle_on whole.map) (seats_of whole)
    (λ i d within. refl))
