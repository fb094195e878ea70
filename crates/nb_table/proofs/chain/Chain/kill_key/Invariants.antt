use Rattle.nb_table.proofs.Events.{kill_events}
use Rattle.nb_table.proofs.chain.Chain.kill_key.Given as goal

abbrev pub ghosts-exchanges : goal.ghosts-exchanges
ghosts-exchanges a = record {
  shape = a.self.now.shape;
  events =
      kill_events a.seat.now.number a._for_proof.g a._for_proof.i;
}
