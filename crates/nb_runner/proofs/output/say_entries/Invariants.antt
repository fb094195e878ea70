use Rattle.std.proofs.Common.{drop}
use Rattle.std.specs.List.{flat_map}
use Rattle.nb_runner.specs.Text.{entry_line}
use Rattle.nb_runner.proofs.Saying.{SaysOn}
use Rattle.nb_runner.proofs.output.say_entries.Given as goal

abbrev pub invariant-loop-key : goal.invariant-loop-key
invariant-loop-key g l =
    SaysOn g.W.Sink.contents g.W.Sink.failed l.fn.writer l.writer l.fn.waiting.items l.waiting.items
    (flat_map entry_line (drop l.key-index l.entries)) (flat_map entry_line l.entries)
