use Rattle.std.proofs.Common.{rules}
use Rattle.nb_runner.proofs.ServingLemmas.{some_said}
use Rattle.nb_runner.proofs.serving.serve_gated.Goals as goal

pub returns-in-Err-clause-failed : goal.returns-in-Err-clause-failed
returns-in-Err-clause-failed g c = λ bad. record {
  fault = c.in-Err.fault;
  status_is = c.status.ensures;
  due = search rules;
  read = search rules;
  write = search rules;
  told = search rules;
  begun = some_said _ _ _ c.complain.result c.complain.ensures.said c.complain.ensures.begun;
}
