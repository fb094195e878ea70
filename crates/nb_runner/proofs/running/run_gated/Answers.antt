use Rattle.std.proofs.Common.{◌≡◌, rules, IfErr, OnOk}
use Rattle.std.proofs.lemmas.Result.{IfErr-weaker, IfOk-weaker, err_from_is_err_and}
use Rattle.nb_script.specs.declared.faults.RunFault.TheVariants as run
use Rattle.nb_runner.specs.Outcomes.{IsOutcome}
use Rattle.nb_runner.specs.Runs.{HasBrokenOff, HasRun}
use Rattle.nb_script.specs.Inputs.{HasReadScript}
use Rattle.nb_runner.specs.Working.{phases_in}
use Rattle.nb_runner.proofs.Performed.{has-broken, has-run, memory-fault}
use Rattle.nb_runner.proofs.running.run_gated.Goals as goal

pub returns-clause-ended : goal.returns-clause-ended
returns-clause-ended g c =
    let p = c.args.options.now.shape in
    let phases = phases_in c.in_ok-phases.phases.items in
    let unread = g.R.Source.remaining c.args.reader.now in
    let unread' = g.R.Source.remaining c.read_script.new.reader in
    let written = g.W.Sink.contents c.args.writer.now in
    let written' = g.W.Sink.contents c.tell.new.writer in
    let script : HasReadScript p.seats unread unread' phases = search rules in
    let came : IsOutcome p phases c.in_ok-outcome.outcome = search rules in
    let told : OnOk c.tell.result (HasRun p unread unread' written written') =
    IfOk-weaker c.tell.result _ _
    (λ done appended. has-run p _ _ _ _ phases c.in_ok-outcome.outcome script came
    (search rules)) c.tell.ensures.told in
    let broken : IfErr c.tell.result (λ e. HasBrokenOff p unread unread' written written') =
    IfErr-weaker c.tell.result _ _
    (λ e some. has-broken p _ _ _ _ phases c.in_ok-outcome.outcome script came (search rules))
    c.tell.ensures.begun in
    record { ok = search rules; due = search rules; read = search rules; write = search rules }

pub returns-in_err-outcome-clause-ended : goal.returns-in_err-outcome-clause-ended
returns-in_err-outcome-clause-ended g c =
    let p = c.args.options.now.shape in
    let phases = phases_in c.in_ok-phases.phases.items in
    let unread' = g.R.Source.remaining c.read_script.new.reader in
    let written = g.W.Sink.contents c.args.writer.now in
    let script : HasReadScript p.seats (g.R.Source.remaining c.args.reader.now) unread' phases =
    search rules in
    let error = err_from_is_err_and c.from_residual-in_err-outcome.result
    c.from_residual-in_err-outcome.ensures.1 in
    let memory : c.in_err-outcome.field-0.0 ≡ run.OutOfMemory = search rules in
    record {
      ok = search rules;
      due = rw (error.1, error.2, memory) (memory-fault p _ _ written written phases script);
      read = search rules;
      write = search rules;
    }
