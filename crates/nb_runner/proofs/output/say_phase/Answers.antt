use Rattle.std.proofs.Common.{arith, rules, ◌+◌, List, length, slice_index, Vec, Global}
use Rattle.nb_runner.specs.Working.{commands_of}
use Rattle.nb_runner.specs.declared.answers.Answer.{Answer}
use Rattle.nb_runner.proofs.OutputLemmas.{done-more, done-rest, lines-handed}
use Rattle.nb_runner.proofs.Saying.{more-said, next-failed}
use Rattle.nb_runner.proofs.output.say_phase.Goals as goal

abbrev items : Vec Answer Global → List Answer
items list = list.items

pub loop-worker-preserved : goal.loop-worker-preserved
loop-worker-preserved g c =
    let phase = c.args.phase.now in
    let before = c.args.done.now in
    let now = c.loop-worker.done in
    let i = c.loop-worker.worker in
    let count = c.count_of.result in
    let inv = c.loop-worker.invariant in
    let first = inv.2 i (omega arith) in (
      more-said inv.0 c.in_ok-say_lines.ensures
          (lines-handed items phase before c.args.answers.now i (slice_index now i) count
          c.index-answers-worker.result c.as_slice.result.now c.loop-worker-test.true
          c.index-answers-worker.is first c.count_of.ensures c.as_slice.ensures.value),
      done-more before now i (slice_index now i + count) (λ w. length (commands_of w phase))
          (search rules) (omega (arith, first, c.count_of.ensures)) inv.1,
      done-rest before now i (slice_index now i + count) inv.2,
    )

pub returns-in_err-say_lines-clause-said : goal.returns-in_err-say_lines-clause-said
returns-in_err-say_lines-clause-said g c =
    let i = c.loop-worker.worker in
    next-failed _ c.from_residual.result c.loop-worker.invariant.0 c.in_err-say_lines.ensures
    (lines-handed items c.args.phase.now c.args.done.now c.args.answers.now i
    (slice_index c.loop-worker.done i) c.count_of.result c.index-answers-worker.result
    c.as_slice.result.now c.loop-worker-test.true c.index-answers-worker.is
    (c.loop-worker.invariant.2 i (omega arith)) c.count_of.ensures c.as_slice.ensures.value)
    c.from_residual.ensures.0
