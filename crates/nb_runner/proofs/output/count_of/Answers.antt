use Rattle.std.proofs.Common.{rules, ◌∙◌, sym, filter, ◌==◌, List, ℕ}
use Rattle.std.proofs.lemmas.List.{length-map}
use Rattle.std.proofs.lemmas.List.Sums.{length-filter}
use Rattle.nb_script.specs.declared.script.Command.{Command}
use Rattle.nb_runner.proofs.output.count_of.Goals as goal

pub returns : goal.returns
returns c =
    let own : List (ℕ × Command) = filter (λ task. task.0 == c.args.worker) c.args.phase.now in
    search rules ∙ sym (length-filter _ c.args.phase.now) ∙ sym (length-map own (λ task. task.1))
