use Rattle.std.proofs.Common.{suc, inr, subst, sym, arith}
use Rattle.nb_core.specs.Tables.{IsFinishedValue}
use Rattle.nb_map.proofs.Made.{made-copied, made-none, made-within}
use Rattle.nb_map.proofs.Searched.{finished-passed, primed-next, table-within}
use Rattle.nb_map.proofs.Turned.{one-if}
use Rattle.nb_map.specs.Steps.{pass_steps}
use Rattle.nb_map.proofs.steps.slot.pass_slot.Goals as goal
use Rattle.nb_table.proofs.Theorems.{steps_add_up}

pub copy_and_count-requires-clause-growing : goal.copy_and_count-requires-clause-growing
copy_and_count-requires-clause-growing c =
    primed-next c.args.chain.now c.args.seat.now c.requires.own
    c.args.slot.g c.args.slot.i c.requires.slot c.args.word c.requires.held c.requires.primed

pub returns-then-not-is_finished-clause-made : goal.returns-then-not-is_finished-clause-made
returns-then-not-is_finished-clause-made c call =
    let chain = c.args.chain.now in
    let next = primed-next chain c.args.seat.now c.requires.own c.args.slot.g c.args.slot.i c.requires.slot
    c.args.word
    c.requires.held c.requires.primed in
    made-copied chain call
    (table-within chain c.args.seat.now c.requires.own (suc c.args.slot.g) next)
    (one-if c.copy_and_count.result c.args.slot.i)
    c.copy_and_count.ensures.copied

pub returns-then-not-is_finished-clause-passed : goal.returns-then-not-is_finished-clause-passed
returns-then-not-is_finished-clause-passed c key claimed =
    let chain = c.args.chain.now in
    let next = primed-next chain c.args.seat.now c.requires.own c.args.slot.g c.args.slot.i c.requires.slot
    c.args.word
    c.requires.held c.requires.primed in
    let lasting = steps_add_up.stays c.requires.own c.copy_and_count.ensures.copied.grown in (
      finished-passed chain.shape _ c.args.slot.g c.args.slot.i key c.requires.slot.1
          (lasting.claimed c.args.slot.g c.args.slot.i key c.requires.slot claimed)
          c.copy_and_count.ensures.finished,
      lasting.installed (suc c.args.slot.g) next,
    )

pub returns-else-not-is_finished-clause-made : goal.returns-else-not-is_finished-clause-made
returns-else-not-is_finished-clause-made c call =
    made-within 0 (pass_steps c.args.chain.now.shape c.args.slot.g) (omega arith)
    (made-none c.args.chain.now call c.args.seat.now c.requires.own)

pub returns-else-not-is_finished-clause-passed : goal.returns-else-not-is_finished-clause-passed
returns-else-not-is_finished-clause-passed c key claimed =
    let chain = c.args.chain.now in
    let final : IsFinishedValue c.args.word =
    subst IsFinishedValue c.state.ensures (sym c.if-not-is_finished.ensures) in (
      finished-passed chain.shape _ c.args.slot.g c.args.slot.i key c.requires.slot.1 claimed
          (inr (subst IsFinishedValue (sym c.requires.held) final)),
      primed-next chain c.args.seat.now c.requires.own c.args.slot.g c.args.slot.i c.requires.slot
          c.args.word
          c.requires.held c.requires.primed,
    )
