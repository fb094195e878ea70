use Rattle.std.proofs.Common.{◌≡◌, ◌+◌, ◌≤◌, drop, length, vec_capacity}
use Rattle.nb_map.specs.Maps.{IsMine}
use Rattle.nb_runner.specs.Working.{commands_of}
use Rattle.nb_runner.proofs.OneWorker.{IsRunning}
use Rattle.nb_runner.proofs.workers.Worker.run.Given as goal

abbrev pub invariant-loop-worker : goal.invariant-loop-worker
invariant-loop-worker g l =
    IsMine l.map l.seat
    × IsRunning l.map l.number l.phase l.worker-index l.fn.self.answers.items l.answers.items
    l.fn.self.seat l.seat
    × (length l.answers.items + length (commands_of l.number (drop l.worker-index l.phase))
    ≤ vec_capacity l.answers)
    × (vec_capacity l.answers ≡ vec_capacity l.fn.self.answers)
    × (l.done ≤ l.worker-index)
