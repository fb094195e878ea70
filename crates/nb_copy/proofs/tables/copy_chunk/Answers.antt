use Rattle.std.proofs.Common.{◌≡◌, ◌∙◌, ◌+◌, ◌-◌, ◌*◌, ◌<◌, ◌≤◌, ◌∷◌, ◌++◌, min, ap, sym, refl, subst, arith, rules}
use Rattle.std.proofs.lemmas.List.Elements.{All-nil, All-weaker}
use Rattle.nb_core.specs.History.{counted_by, turned_by}
use Rattle.nb_core.specs.Plans.{generations_of, size_of}
use Rattle.nb_core.specs.Tables.{chunk_of}
use Rattle.nb_table.proofs.Theorems.{steps_add_up}
use Rattle.nb_copy.specs.Copying.{HasCopied}
use Rattle.nb_copy.specs.Handing.{IsHanded, adds_of, slot_steps}
use Rattle.nb_copy.proofs.Adding.{copied-adds}
use Rattle.nb_copy.proofs.Copied.{copied-none, copied-own, copied-stays}
use Rattle.nb_copy.proofs.Counted.{may-count}
use Rattle.nb_copy.proofs.Helped.{below-handed, chunk-bound, counted-adds, counted-after, handed-below, helped, one_add}
use Rattle.nb_copy.proofs.SlotsFinished.{next-in-plan}
use Rattle.nb_copy.proofs.tables.copy_chunk.Goals as goal

pub returns-then-start-size : goal.returns-then-start-size
returns-then-start-size c =
    let chain = c.args.chain.now in
    let p = chain.shape in
    let g = c.args.g in
    let start = c.take_work-start.result in
    let take = c.take_work-start.ensures in
    let next = next-in-plan chain c.args.seat.now c.requires.own g c.requires.growing in
    let size : c.size_of-size.result ≡ size_of p g = search rules in
    record {
      helped = helped chain g (omega (arith, next)) start c.requires.own take.grows take.found
          (copied-none c.args.chain.now g c.take_work-start.new.seat
          (steps_add_up.own c.requires.own (steps_add_up.one take.grows))) (omega arith) refl
          (λ i handed. absurd (omega (arith, size, handed.0, handed.2, c.if-start-size.true)))
          (All-nil (IsHanded p g start)) refl (λ past. (refl, refl))
          (λ some. absurd (omega (arith, some)));
    }

pub count-requires-clause-turned : goal.count-requires-clause-turned
count-requires-clause-turned c =
    let chain = c.args.chain.now in
    let g = c.args.g in
    let seat = c.copy_slots-turned.new.seat in
    let next = next-in-plan chain c.args.seat.now c.requires.own g c.requires.growing in
    let work = c.copy_slots-turned.ensures.copied in
    let grows = c.take_work-start.ensures.grows in
    subst (λ n. counted_by seat.seen seat.number g + n
    ≤ turned_by chain.shape seat.seen seat.number g) work.1
    (may-count chain (steps_add_up.own c.requires.own (steps_add_up.one grows)) g
    (omega (arith, next)) work.3)

pub returns-then-turned-gt0 : goal.returns-then-turned-gt0
returns-then-turned-gt0 c =
    let chain = c.args.chain.now in
    let p = chain.shape in
    let g = c.args.g in
    let start = c.take_work-start.result in
    let take = c.take_work-start.ensures in
    let next = next-in-plan chain c.args.seat.now c.requires.own g c.requires.growing in
    let table : g < generations_of p = omega (arith, next) in
    let size : c.size_of-size.result ≡ size_of p g = search rules in
    let ends : c.min-end.result ≡ min (size_of p g) (start + chunk_of p g) = search rules in
    let few = chunk-bound p g start ends (slot_steps p g) in
    let work = c.copy_slots-turned.ensures.copied in
    let own = steps_add_up.own c.requires.own (steps_add_up.one take.grows) in
    let same = work.3.grown.number ∙ take.grows.number in
    let lasting = copied-stays chain g table (copied-own chain g table own work.3)
    c.count.ensures.counted in
    record {
      helped = helped chain g table start c.requires.own take.grows take.found
          (counted-after chain g table own work.3 c.count.ensures.counted)
          (omega (arith, few)) work.1
          (λ i handed. lasting.finished g i (table, handed.2)
          (c.copy_slots-turned.ensures.finished i handed.0 (handed-below p g start ends i handed)))
          (All-weaker _ _ (below-handed p g start ends) work.0 work.2)
          (counted-adds c.copy_slots-turned.result c.if-turned-gt0.true
          (ap (λ n. adds_of c.count.new.seat.seen n g) (sym same) ∙ c.count.ensures.once
          ∙ ap (λ n. c.copy_slots-turned.result
          ∷ adds_of c.copy_slots-turned.new.seat.seen n g) same)
          (copied-adds c.args.seat.now.number take.grows.number work.3))
          (λ past. absurd (omega (arith, past, size, c.if-start-size.false)))
          (λ some. c.count.ensures.raised);
    }

pub returns-else-turned-gt0 : goal.returns-else-turned-gt0
returns-else-turned-gt0 c =
    let chain = c.args.chain.now in
    let p = chain.shape in
    let g = c.args.g in
    let start = c.take_work-start.result in
    let take = c.take_work-start.ensures in
    let next = next-in-plan chain c.args.seat.now c.requires.own g c.requires.growing in
    let size : c.size_of-size.result ≡ size_of p g = search rules in
    let ends : c.min-end.result ≡ min (size_of p g) (start + chunk_of p g) = search rules in
    let few = chunk-bound p g start ends (slot_steps p g) in
    let most = (c.min-end.result - start) * slot_steps p g in
    let none : 0 ≡ c.copy_slots-turned.result = omega (arith, c.if-turned-gt0.false) in
    let work = c.copy_slots-turned.ensures.copied in
    record {
      helped = helped chain g (omega (arith, next)) start c.requires.own take.grows take.found
          (subst (λ n. HasCopied p g c.take_work-start.new.seat c.copy_slots-turned.new.seat work.0
          0 n most) none work.3)
          (omega (arith, few)) work.1
          (λ i handed. c.copy_slots-turned.ensures.finished i handed.0
          (handed-below p g start ends i handed))
          (All-weaker _ _ (below-handed p g start ends) work.0 work.2)
          (subst (λ n. adds_of c.copy_slots-turned.new.seat.seen c.args.seat.now.number g
          ≡ one_add n ++ adds_of c.take_work-start.new.seat.seen c.args.seat.now.number g) none
          (copied-adds c.args.seat.now.number take.grows.number work.3))
          (λ past. absurd (omega (arith, past, size, c.if-start-size.false)))
          (λ some. absurd (omega (arith, some, none)));
    }
