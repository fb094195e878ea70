use Rattle.std.proofs.Common.{◌≡◌, ◌∙◌, inr, arith, rules}
use Rattle.nb_core.specs.Plans.{size_of}
use Rattle.nb_copy.proofs.Adding.{copied-adds, count-adds}
use Rattle.nb_copy.proofs.Copied.{copied-within}
use Rattle.nb_copy.proofs.Counted.{copied-count, copied-last, copied-promote}
use Rattle.nb_copy.proofs.tables.count.Goals as goal

pub promote-requires-clause-complete : goal.promote-requires-clause-complete
promote-requires-clause-complete c =
    let size : c.size_of.result ≡ size_of c.args.chain.now.shape c.args.g = search rules in
    inr (omega (arith, size, c.count_done-before.ensures.found, c.if-before-slots.true))

pub returns-then-before-slots-clause-counted : goal.returns-then-before-slots-clause-counted
returns-then-before-slots-clause-counted c =
    let chain = c.args.chain.now in
    let counted = copied-count chain.shape c.args.g _ _ c.args.slots
    c.count_done-before.ensures.grows in
    let promoted = copied-promote chain.shape c.args.g _ _ c.promote.result
    (λ low. let step = c.promote.ensures.raised low in (step.0, step.2))
    c.promote.ensures.was_higher in
    copied-last chain c.args.g c.requires.table c.requires.own counted promoted.0

pub returns-then-before-slots-clause-once : goal.returns-then-before-slots-clause-once
returns-then-before-slots-clause-once c =
    let step = c.count_done-before.ensures.grows in
    let promoted = copied-promote c.args.chain.now.shape c.args.g _ _ c.promote.result
    (λ low. let step = c.promote.ensures.raised low in (step.0, step.2))
    c.promote.ensures.was_higher in
    copied-adds c.args.seat.now.number step.number promoted.0
    ∙ count-adds c.args.chain.now.shape c.args.g c.args.slots _ _ step

pub returns-else-before-slots-clause-once : goal.returns-else-before-slots-clause-once
returns-else-before-slots-clause-once c =
    count-adds c.args.chain.now.shape c.args.g c.args.slots _ _ c.count_done-before.ensures.grows

pub returns-else-before-slots-clause-counted : goal.returns-else-before-slots-clause-counted
returns-else-before-slots-clause-counted c =
    copied-within 1 2 (omega arith)
    (copied-count c.args.chain.now.shape c.args.g _ _ c.args.slots
    c.count_done-before.ensures.grows)
