use Rattle.nb_runner.proofs.OutcomeLemmas.{IfOk-both, workers-mine}
use Rattle.nb_runner.proofs.outcome.worked.Goals as goal

pub run_phases-requires-clause-own : goal.run_phases-requires-clause-own
run_phases-requires-clause-own g c κs within =
    workers-mine c.args.map.now c.args.seats.items c.in_ok-workers.workers.items
    c.in_ok-workers.ensures.seats c.requires.own

pub returns : goal.returns
returns g c =
    IfOk-both c.retire.result _ _ _
    (λ parts seats answers. record {
      workers = c.in_ok-workers.workers.items;
      retired = c.in_ok-ran.ran.items;
      seated = c.in_ok-workers.ensures.seats;
      fresh = c.in_ok-workers.ensures.fresh;
      ran = c.in_ok-ran.ensures.ran;
      seats = seats;
      answered = answers;
    })
    c.retire.ensures.seats c.retire.ensures.answers
