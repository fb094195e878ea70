use Rattle.std.proofs.Common.{◌∙◌, ◌∷◌, ap, sym, rules}
use Rattle.std.specs.Vec.Iter.{into_iter_items}
use Rattle.nb_map.proofs.Reserves.{all-behind, is-reserve, one-more, reserve-of}
use Rattle.nb_map.proofs.handle.reserve.Reserve.spread.Goals as goal

pub loop-seat-preserved : goal.loop-seat-preserved
loop-seat-preserved c =
    let inv = c.loop-seat.invariant in
    let refilled = c.refilled-in-loop-seat.ensures in
    let more = one-more c.loop-seat.nodes c.refilled-in-loop-seat.new.nodes inv.2 inv.3 refilled.1
    refilled.0 c.in-Some-seat.seat _ _ _ inv.4 refilled.2 refilled.3 inv.5 inv.6
    c.in-Some-seat.ensures.steps.0 in
    (tt, tt, more.0, more.1, more.2, more.3, more.4)

pub invariant_of-result : goal.invariant_of-result
invariant_of-result c =
    let inv = c.loop-seat.invariant in
    is-reserve c.loop-seat.nodes (into_iter_items c.into_iter-seat-iterator.result)
    (all-behind c.loop-seat.nodes inv.2 inv.3 _ _ inv.4 inv.5 inv.6
    (sym c.loop-seat.seat-iterator.rest.ok.0 ∙ c.in-None.ensures.steps.0))

pub returns : goal.returns
returns c =
    let inv = c.loop-seat.invariant in
    search (
      rules,
      c.in-Some.ensures.items,
      c.into_iter-seats.ensures.rest,
      c.into_iter-seat-iterator.ensures.into_iter_gives,
    )
    ∙ ap (λ xs. c.in-Some.own ∷ xs)
    (sym (reserve-of c.loop-seat.nodes (into_iter_items c.into_iter-seat-iterator.result)
    (all-behind c.loop-seat.nodes inv.2 inv.3 _ _ inv.4 inv.5 inv.6
    (sym c.loop-seat.seat-iterator.rest.ok.0 ∙ c.in-None.ensures.steps.0))))
