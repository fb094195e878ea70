use Rattle.std.proofs.Common.{◌≡◌, ◌+◌, ◌<◌, ◌≤◌, ℕ, drop, length, map, slice_index}
use Rattle.nb_runner.specs.Output.{left, phase_lines}
use Rattle.nb_runner.specs.Working.{commands_of}
use Rattle.nb_runner.proofs.Saying.{SaysOn}
use Rattle.nb_runner.proofs.output.say_phase.Given as goal

abbrev pub invariant-loop-worker : goal.invariant-loop-worker
invariant-loop-worker g l =
    SaysOn g.W.Sink.contents g.W.Sink.failed l.fn.writer l.writer l.fn.waiting.items l.waiting.items
    (phase_lines l.phase l.worker (left l.fn.done l.worker
    (map (λ list. list.items) (drop l.worker l.answers))))
    (phase_lines l.phase 0 (left l.fn.done 0 (map (λ list. list.items) l.answers)))
    × ((w : ℕ) → w < l.worker → slice_index l.done w ≡ slice_index l.fn.done w
    + length (commands_of w l.phase))
    × ((w : ℕ) → l.worker ≤ w → slice_index l.done w ≡ slice_index l.fn.done w)
