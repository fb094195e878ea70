use Rattle.std.proofs.Common.{All, subst, sym}
use Rattle.std.specs.List.{AllZip}
use Rattle.nb_map.specs.Maps.{IsMine}
use Rattle.nb_runner.specs.Working.{IsReadyFor, IsRun}
use Rattle.nb_runner.proofs.PhaseLemmas.{some-done, some-more, some-ready}
use Rattle.nb_runner.proofs.Together.{all-zip-right}
use Rattle.nb_runner.proofs.workers.run_phases.Goals as goal

pub run_phase-requires-clause-ready : goal.run_phase-requires-clause-ready
run_phase-requires-clause-ready g c κs within =
    subst (λ phase. All (IsReadyFor c.args.map.now phase) c.loop-phase.workers.items)
    (sym c.as_slice.ensures.value)
    (some-ready c.args.map.now c.args.phases.now c.loop-phase.phase-index c.phase-item.result
    c.args.workers.items
    c.loop-phase.workers.items c.loop-phase-test.true c.phase-item.is c.loop-phase.invariant)

pub meet_all-workers-requires : goal.meet_all-workers-requires
meet_all-workers-requires g c = record {
  own =
      all-zip-right (IsRun c.args.map.now c.as_slice.result.now) (λ w. IsMine c.args.map.now w.seat)
      (λ w v run. run.0)
      c.loop-phase.workers.items c.in_ok-apart.apart.items c.in_ok-apart.ensures.ran;
}

pub loop-phase-preserved : goal.loop-phase-preserved
loop-phase-preserved g c =
    let ran =
    subst (λ phase. AllZip (IsRun c.args.map.now phase)
    c.loop-phase.workers.items c.in_ok-apart.apart.items)
    c.as_slice.ensures.value c.in_ok-apart.ensures.ran in
    some-more c.args.map.now c.args.phases.now c.loop-phase.phase-index c.phase-item.result
    c.args.workers.items
    c.loop-phase.workers.items c.in_ok-apart.apart.items c.meet_all-workers.result.items
    c.loop-phase-test.true c.phase-item.is ran
    c.meet_all-workers.ensures.met c.loop-phase.invariant

pub returns : goal.returns
returns g c = record {
  ran =
      some-done c.args.map.now c.args.phases.now c.loop-phase.phase-index c.args.workers.items
      c.loop-phase.workers.items
      c.loop-phase-test.false c.loop-phase.invariant;
}
