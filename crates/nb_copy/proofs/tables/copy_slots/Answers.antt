use Rattle.std.proofs.Common.{◌≡◌, ◌-◌, ◌*◌, ◌<◌, ◌≤◌, suc, ℕ, List, [], length, refl, subst, sym, arith, rules}
use Rattle.std.specs.List.{All}
use Rattle.std.proofs.lemmas.List.Elements.{All-nil}
use Rattle.nb_copy.specs.Copying.{HasCopied}
use Rattle.nb_copy.specs.Handing.{slot_steps}
use Rattle.nb_copy.proofs.Copied.{copied-none, copied-own, copied-stays, copied-within}
use Rattle.nb_copy.proofs.Counted.{byte-small, copied-slot, finished-slot}
use Rattle.nb_copy.proofs.tables.copy_slots.Goals as goal

pub loop-i-init : goal.loop-i-init
loop-i-init c =
    let none = copied-none c.args.chain.now c.args.g c.args.seat.now c.requires.own in (
      omega arith,
      (
        [],
        refl,
        All-nil (λ j. (c.args.from ≤ j) × (j < c.args.from)),
        copied-within 0 _ (omega arith) none,
      ),
      λ j after below. absurd (omega (arith, after, below)),
    )

pub copy_slot-requires-clause-own : goal.copy_slot-requires-clause-own
copy_slot-requires-clause-own c =
    copied-own c.args.chain.now c.args.g c.requires.table c.requires.own
    c.loop-i.invariant.1.3

pub copy_slot-requires-clause-growing : goal.copy_slot-requires-clause-growing
copy_slot-requires-clause-growing c =
    (copied-stays c.args.chain.now c.args.g c.requires.table c.requires.own
    c.loop-i.invariant.1.3).installed (suc c.args.g)
    c.requires.growing

pub overflow_add-turned : goal.overflow_add-turned
overflow_add-turned c =
    omega (
      arith,
      c.loop-i.invariant.0,
      c.from-turned.ensures,
      byte-small c.copy_slot.result,
      c.loop-i-test.true,
      c.ranges.to.fits,
    )

pub loop-i-preserved : goal.loop-i-preserved
loop-i-preserved c =
    let chain = c.args.chain.now in
    let so_far = c.loop-i.invariant in
    let own = copied-own chain c.args.g c.requires.table c.requires.own so_far.1.3 in
    let first : c.args.from ≤ c.loop-i.i = omega (arith, c.loop-i.auto.i) in (
      omega (arith, so_far.0, c.from-turned.ensures, byte-small c.copy_slot.result),
      copied-slot chain c.args.g c.requires.table c.args.from c.loop-i.i
          (slot_steps chain.shape c.args.g) _ _
          c.copy_slot.result first c.requires.own c.from-turned.ensures so_far.1
          c.copy_slot.ensures.copied,
      finished-slot chain c.args.g c.requires.table c.args.from c.loop-i.i own
          (omega (arith, c.loop-i-test.true, c.requires.within.1)) so_far.2
          c.copy_slot.ensures.copied c.copy_slot.ensures.finished,
    )

pub returns-clause-copied : goal.returns-clause-copied
returns-clause-copied c =
    let end : c.loop-i.i ≡ c.args.to = search rules in
    subst
    (λ i. (slots : List ℕ) × (length slots ≡ c.loop-i.turned)
    × All (λ j. (c.args.from ≤ j) × (j < i)) slots
    × HasCopied c.args.chain.now.shape c.args.g c.args.seat.now c.loop-i.seat slots 0 0
    ((i - c.args.from) * slot_steps c.args.chain.now.shape c.args.g)) end
    c.loop-i.invariant.1

pub returns-clause-finished : goal.returns-clause-finished
returns-clause-finished c =
    let end : c.loop-i.i ≡ c.args.to = search rules in
    λ i after below. c.loop-i.invariant.2 i after (subst (λ n. i < n) (sym end) below)
