use Rattle.nb_table.proofs.chain.Chain.count_done.Given as goal
use Rattle.nb_table.proofs.Events.{count_events}

abbrev pub ghosts-adds : goal.ghosts-adds
ghosts-adds a = record {
  shape = a.self.now.shape;
  events =
      count_events a.seat.now.number a._for_proof.g a.amount;
}
