use Rattle.std.proofs.Common.{◌∙◌, ◌∷◌, ap, sym, rules}
use Rattle.std.specs.Vec.Iter.{into_iter_items}
use Rattle.nb_core.proofs.Seating.{all-moved}
use Rattle.nb_map.proofs.Reserves.{is-reserve, reserve-of}
use Rattle.nb_map.proofs.handle.reserve.Reserve.new.Goals as goal

pub invariant_of-result : goal.invariant_of-result
invariant_of-result c =
    is-reserve c.loop-seat.nodes (into_iter_items c.into_iter-seat-iterator.result)
    (all-moved c.loop-seat.invariant.2 (search rules))

pub returns : goal.returns
returns c =
    search (
      rules,
      c.in-Some.ensures.items,
      c.into_iter-seats.ensures.rest,
      c.into_iter-seat-iterator.ensures.into_iter_gives,
    )
    ∙ ap (λ xs. c.in-Some.own ∷ xs)
    (sym (reserve-of c.loop-seat.nodes (into_iter_items c.into_iter-seat-iterator.result)
    (all-moved c.loop-seat.invariant.2 (search rules))))
