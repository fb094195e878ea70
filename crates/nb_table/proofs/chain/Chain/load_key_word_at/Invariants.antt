use Rattle.nb_core.specs.States.{key_state}
use Rattle.nb_table.specs.Events.{reads, shown_by_key}
use Rattle.nb_table.proofs.chain.Chain.load_key_word_at.Given as goal

abbrev pub ghosts-loads : goal.ghosts-loads
ghosts-loads a = record {
  shape = a.self.now.shape;
  events = λ found. reads a.seat.now.number a._for_proof.call
      (shown_by_key a.self.now.shape a._for_proof.g a._for_proof.i (key_state found));
}
