use Rattle.nb_core.specs.States.{shown_by_value, value_in_word}
use Rattle.nb_table.specs.Events.{reads}
use Rattle.nb_table.proofs.chain.Chain.load_value_word_at.Given as goal

abbrev pub ghosts-loads : goal.ghosts-loads
ghosts-loads a = record {
  shape = a.self.now.shape;
  events = λ found. reads a.seat.now.number a._for_proof.call (λ k. shown_by_value (value_in_word found));
}
