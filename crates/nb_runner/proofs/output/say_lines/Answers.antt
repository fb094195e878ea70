use Rattle.nb_runner.specs.Text.{answer_line}
use Rattle.nb_runner.proofs.Saying.{more-said, next-failed, texts-next}
use Rattle.nb_runner.proofs.output.say_lines.Goals as goal

pub loop-answer-preserved : goal.loop-answer-preserved
loop-answer-preserved g c =
    more-said c.loop-answer.invariant c.in_ok-say_line.ensures
    (texts-next (answer_line c.args.worker) c.args.answers.now c.loop-answer.answer-index
    c.answer-item.result c.loop-answer-test.true c.answer-item.is)

pub returns-in_err-say_line : goal.returns-in_err-say_line
returns-in_err-say_line g c =
    next-failed _ c.from_residual.result c.loop-answer.invariant c.in_err-say_line.ensures
    (texts-next (answer_line c.args.worker) c.args.answers.now c.loop-answer.answer-index
    c.answer-item.result c.loop-answer-test.true c.answer-item.is)
    c.from_residual.ensures.0
