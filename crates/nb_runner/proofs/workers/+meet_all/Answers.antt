use Rattle.std.proofs.Common.{◌∙◌, ◌∷◌, ◌++◌, [], All, ap, arith, length, subst, subst₂, sym}
use Rattle.std.specs.List.{AllZip}
use Rattle.std.specs.Vec.{with_items}
use Rattle.std.proofs.lemmas.List.{length-append}
use Rattle.std.proofs.lemmas.List.Elements.{length_all_zip}
use Rattle.nb_map.specs.Maps.{IsMine}
use Rattle.nb_runner.specs.Working.{HasMetAs, worker_seats}
use Rattle.nb_runner.proofs.Meeting.{all-met, kept-back}
use Rattle.nb_runner.proofs.Together.{all-zip-right}
use Rattle.nb_runner.proofs.workers.+meet_all.Goals as goal

pub meet_all-workers-requires : goal.meet_all-workers-requires
meet_all-workers-requires t c =
    let m = c.args.map.now in
    let last = c.in-Some.last in
    let before = c.as_mut_slice.result.now in
    let between = c.meet_each.new.others in
    let each = c.meet_each.ensures.others in
    let items = kept-back m (last.seat ∷ [])
    c.pop.new.self before between c.as_mut_slice.ensures.len each in (
      omega (
        arith,
        ap length items,
        length_all_zip (HasMetAs m (last.seat ∷ [])) before between each,
        ap length c.as_mut_slice.ensures.value,
        ap length c.in-Some.ensures.items,
        length-append c.pop.new.self.items (last ∷ []),
      ),
      subst (All (λ w. IsMine m w.seat)) (sym items)
          (all-zip-right (HasMetAs m (last.seat ∷ [])) (λ w. IsMine m w.seat) (λ v w met. met.own)
          before between each),
    )

pub push_reserved-requires : goal.push_reserved-requires
push_reserved-requires t c =
    let m = c.args.map.now in
    let last = c.in-Some.last in
    let before = c.as_mut_slice.result.now in
    let between = c.meet_each.new.others in
    let each = c.meet_each.ensures.others in
    let back = (with_items c.pop.new.self between).items in
    omega (
      arith,
      ap length (kept-back m (last.seat ∷ [])
          c.pop.new.self before between c.as_mut_slice.ensures.len each),
      length_all_zip (HasMetAs m (last.seat ∷ [])) before between each,
      length_all_zip (HasMetAs m (worker_seats back))
          back c.meet_all-workers.result.items c.meet_all-workers.ensures.met,
      c.as_mut_slice.ensures.len,
      ap length c.in-Some.ensures.items,
      length-append c.pop.new.self.items (last ∷ []),
      ap length c.as_mut_slice.ensures.value,
      c.meet_all-workers.ensures.room,
      c.pop.ensures.capacity,
      c.pop.ensures.len,
      c.args.workers.ok,
      c.meet_all-workers.result.ok,
    )

pub returns-clause-met : goal.returns-clause-met
returns-clause-met t c =
    let m = c.args.map.now in
    let last = c.in-Some.last in
    let before = c.as_mut_slice.result.now in
    let between = c.meet_each.new.others in
    let after = c.meet_all-workers.result.items in
    let each = c.meet_each.ensures.others in
    let items = c.in-Some.ensures.items ∙ ap (λ ws. ws ++ last ∷ [])
    (sym c.as_mut_slice.ensures.value) in
    subst₂ (λ ws us. AllZip (HasMetAs m (worker_seats ws)) ws us) (sym items)
    (sym c.push_reserved.ensures.items)
    (all-met m before between after last c.meet_each.new.seat
    c.meet_each.ensures.own c.meet_each.ensures.met each
    (subst (λ vs. AllZip (HasMetAs m (worker_seats vs)) vs after)
    (kept-back m (last.seat ∷ []) c.pop.new.self before between c.as_mut_slice.ensures.len each)
    c.meet_all-workers.ensures.met))
