use Rattle.std.proofs.Common.{◌+◌, ◌∷◌, [], sym, subst, cond}
use Rattle.nb_copy.specs.Copying.{HasCopied}
use Rattle.nb_copy.specs.Handing.{slot_steps}
use Rattle.nb_copy.proofs.Copied.{copied-more, copied-own, copied-stays}
use Rattle.nb_copy.proofs.Counted.{may-count}
use Rattle.nb_copy.proofs.tables.copy_and_count.Goals as goal

pub count-requires-clause-turned : goal.count-requires-clause-turned
count-requires-clause-turned c =
    may-count c.args.chain.now c.requires.own c.args.g
    c.requires.slot.0 c.if-turned.ensures.copied

pub returns-then-turned-clause-copied : goal.returns-then-turned-clause-copied
returns-then-turned-clause-copied c =
    let chain = c.args.chain.now in
    let own = copied-own chain c.args.g c.requires.slot.0 c.requires.own
    c.if-turned.ensures.copied in
    subst
    (λ b. HasCopied chain.shape c.args.g c.args.seat.now c.count.new.seat
    (cond b (c.args.i ∷ []) []) 0 (cond b 1 0) (slot_steps chain.shape c.args.g + 2))
    (sym c.if-turned.true) (copied-more chain c.args.g c.requires.slot.0 own
    c.if-turned.ensures.copied c.count.ensures.counted)

pub returns-then-turned-clause-finished : goal.returns-then-turned-clause-finished
returns-then-turned-clause-finished c =
    let chain = c.args.chain.now in
    let own = copied-own chain c.args.g c.requires.slot.0 c.requires.own
    c.copy_slot-turned.ensures.copied in
    (copied-stays chain c.args.g c.requires.slot.0 own c.count.ensures.counted).finished c.args.g
    c.args.i c.requires.slot
    c.copy_slot-turned.ensures.finished
