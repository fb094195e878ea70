use Rattle.nb_table.proofs.Theorems.{steps_add_up}
use Rattle.nb_core_tests.proofs.tests.tables.on_chain.makes_write.Goals as goal

pub returns : goal.returns
returns c = record {
  own = steps_add_up.own c.requires.own
      c.put_if_match_in-answer.ensures.made.grown;
}
