use Rattle.nb_table.proofs.Events.{prime_events}
use Rattle.nb_table.proofs.chain.Chain.prime.Given as goal

abbrev pub ghosts-ors : goal.ghosts-ors
ghosts-ors a = record {
  shape = a.self.now.shape;
  events =
      prime_events a.seat.now.number a._for_proof.g a._for_proof.i;
}
