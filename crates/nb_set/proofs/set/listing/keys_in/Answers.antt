use Rattle.std.proofs.Common.{◌∙◌, ap, arith, length, map, refl}
use Rattle.std.proofs.lemmas.List.{length-map}
use Rattle.std.specs.Vec.Iter.{into_iter_items}
use Rattle.nb_core.proofs.Seating.{all-moved, moved-count, moved-more, none-moved}
use Rattle.nb_set.proofs.set.listing.keys_in.Goals as goal

pub loop-key-init : goal.loop-key-init
loop-key-init c = (
  tt,
  tt,
  none-moved refl c.in_ok-keys.ensures.items,
  omega (
    arith,
    c.len.ensures,
    c.in_ok-keys.ensures.capacity,
    ap length c.into_iter-key-iterator.ensures.into_iter_gives.0,
    c.args.entries.ok,
  ),
)

pub push_reserved-requires : goal.push_reserved-requires
push_reserved-requires c =
    let all = into_iter_items c.into_iter-key-iterator.result in
    let many = moved-count c.loop-key.invariant.2 ∙ length-map all (λ entry. entry.0) in
    let next = ap length c.in-Some.ensures.steps.0 in
    omega (arith, many, next, c.loop-key.invariant, c.loop-key.keys.ok)

pub loop-key-preserved : goal.loop-key-preserved
loop-key-preserved c = (
  tt,
  tt,
  moved-more c.loop-key.invariant.2 c.in-Some.ensures.steps.0 refl c.push_reserved.ensures.items,
  omega (arith, c.loop-key.invariant.3, c.push_reserved.ensures.capacity),
)

pub returns : goal.returns
returns c =
    all-moved c.loop-key.invariant.2 (omega
    (arith, c.in-None.ensures.steps, c.loop-key.key-iterator.rest.ok))
    ∙ ap (map (λ entry. entry.0)) c.into_iter-key-iterator.ensures.into_iter_gives.0
