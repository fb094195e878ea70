use Rattle.std.proofs.Common.{drop}
use Rattle.std.specs.List.{flat_map}
use Rattle.nb_runner.specs.Text.{answer_line}
use Rattle.nb_runner.proofs.Saying.{SaysOn}
use Rattle.nb_runner.proofs.output.say_lines.Given as goal

abbrev pub invariant-loop-answer : goal.invariant-loop-answer
invariant-loop-answer g l =
    SaysOn g.W.Sink.contents g.W.Sink.failed l.fn.writer l.writer l.fn.waiting.items l.waiting.items
    (flat_map (answer_line l.worker) (drop l.answer-index l.answers))
    (flat_map (answer_line l.worker) l.answers)
