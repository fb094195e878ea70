use Rattle.nb_runner.proofs.serving.options_of.Goals as goal

pub returns-clause-given : goal.returns-clause-given
returns-clause-given c = rw c.in_ok-words.was c.read_options.ensures.given
