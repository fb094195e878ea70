use Rattle.std.proofs.Common.{◌≡◌, ◌+◌, drop, length}
use Rattle.std.specs.List.{flat_map}
use Rattle.nb_runner.specs.Working.{commands_of, phases_in}
use Rattle.nb_runner.proofs.outcome.room_for.Given as goal

-- the answers so far, and those of the other phases
abbrev pub invariant-loop-phase : goal.invariant-loop-phase
invariant-loop-phase l =
    l.room + length (flat_map (commands_of l.worker) (phases_in (drop l.phase-index l.phases)))
    ≡ length (flat_map (commands_of l.worker) (phases_in l.phases))
