use Rattle.std.proofs.Common.{◌≡◌, ◌+◌, ◌++◌, List, [], Some, ℕ, drop, length, map, slice_get, slice_index}
use Rattle.std.specs.List.{flat_map}
use Rattle.nb_runner.specs.Output.{all_lines, left}
use Rattle.nb_runner.specs.Text.{ending_of}
use Rattle.nb_runner.specs.Working.{commands_of}
use Rattle.nb_runner.specs.declared.answers.Answer.{Answer}
use Rattle.nb_runner.proofs.Saying.{SaysOn}
use Rattle.nb_runner.proofs.output.tell.Given as goal

abbrev pub invariant-loop-phase : goal.invariant-loop-phase
invariant-loop-phase g l =
    SaysOn g.W.Sink.contents g.W.Sink.failed l.fn.writer l.writer [] l.waiting.items
    (all_lines (map (λ phase. phase.items) (drop l.phase-index l.phases))
    (left l.done 0 (map (λ list. list.items) l.answers)) ++ ending_of l.size l.entries)
    (all_lines (map (λ phase. phase.items) l.phases) (map (λ list. list.items) l.answers)
    ++ ending_of l.size l.entries)
    × ((w : ℕ) (mine : List Answer) → slice_get (map (λ list. list.items) l.answers) w ≡ Some mine
    → slice_index l.done w + length (flat_map (commands_of w)
    (map (λ phase. phase.items) (drop l.phase-index l.phases))) ≡ length mine)
