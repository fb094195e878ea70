use Rattle.std.proofs.Common.{◌≡◌, ◌≤◌, ap, arith, length, subst, sym, vec_capacity}
use Rattle.std.specs.List.{flat_map}
use Rattle.std.specs.Vec.Iter.{into_iter_items}
use Rattle.nb_runner.specs.Working.{commands_of, phases_in}
use Rattle.nb_runner.proofs.OutcomeLemmas.{IsReadying, readying-left, readying-more}
use Rattle.nb_runner.proofs.outcome.ready.Goals as goal

pub push_reserved-requires : goal.push_reserved-requires
push_reserved-requires c =
    let below = readying-left _ _ _ _ _ _ c.loop-seat.invariant.2 c.in-Some.ensures.steps.0 in
    omega (arith, c.loop-seat.workers.ok, c.loop-seat.invariant.3, below)

pub loop-seat-preserved : goal.loop-seat-preserved
loop-seat-preserved c =
    let phases = phases_in c.args.phases.now in
    let number : c.len-number.result ≡ length c.loop-seat.workers.items =
    omega (arith, c.len-number.ensures, c.loop-seat.workers.ok) in
    let same = ap (λ n. length (flat_map (commands_of n) phases)) number in
    let room : length (flat_map (commands_of (length c.loop-seat.workers.items)) phases)
    ≤ vec_capacity c.in_ok-answers.answers =
    omega (arith, c.in_ok-answers.ensures.room, same) in (
      tt,
      tt,
      subst (IsReadying phases c.args.seats.items (into_iter_items c.next.new.self))
          (sym c.push_reserved.ensures.items)
          (readying-more phases _ _ _ _ _ c.loop-seat.invariant.2 c.in-Some.ensures.steps.0 number
          c.in_ok-answers.ensures.empty room),
      omega (arith, c.loop-seat.invariant.3, c.push_reserved.ensures.capacity),
    )
