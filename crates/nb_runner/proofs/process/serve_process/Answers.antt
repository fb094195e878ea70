use Rattle.std.proofs.Common.{rules}
use Rattle.nb_runner.proofs.ServingLemmas.{served, stopped}
use Rattle.nb_runner.proofs.process.serve_process.Goals as goal

pub returns-clause-done : goal.returns-clause-done
returns-clause-done g c = λ zero.
    served _ _ (search rules) g.R.Read.remaining _ _ _ (search rules)
    g.W.Write.contents _ _ _ _ _ _ (search rules) (search rules) _ (search rules) _
    (c.serve_words.ensures.done zero)

pub returns-clause-quiet : goal.returns-clause-quiet
returns-clause-quiet g c = λ zero. let same = c.serve_words.ensures.quiet zero in search rules

pub returns-clause-failed : goal.returns-clause-failed
returns-clause-failed g c = λ bad.
    stopped _ _ (search rules) g.R.Read.remaining _ _ _ (search rules)
    g.W.Write.contents _ _ _ _ _ _ (search rules) (search rules) _ (search rules) _
    g.E.Write.contents _ _ _ _ _ _ (search rules) (search rules) _ _ _ _ _ _
    (λ unfailed. let same = c.serve_words.ensures.silent bad unfailed in search rules)
    _ (c.serve_words.ensures.failed bad)
