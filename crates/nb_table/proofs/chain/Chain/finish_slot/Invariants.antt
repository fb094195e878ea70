use Rattle.nb_table.proofs.Events.{finish_events}
use Rattle.nb_table.proofs.chain.Chain.finish_slot.Given as goal

abbrev pub ghosts-ors : goal.ghosts-ors
ghosts-ors a = record {
  shape = a.self.now.shape;
  events = finish_events a.seat.now.number a._for_proof.g a._for_proof.i;
}
