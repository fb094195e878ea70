use Rattle.nb_runner.specs.Working.{phases_in}
use Rattle.nb_runner.proofs.PhaseLemmas.{HaveRunSome}
use Rattle.nb_runner.proofs.workers.run_phases.Given as goal

-- the workers have run the first phases
abbrev pub invariant-loop-phase : goal.invariant-loop-phase
invariant-loop-phase g l = HaveRunSome l.map (phases_in l.phases)
    l.phase-index l.fn.workers.items l.workers.items
