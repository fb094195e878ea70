use Rattle.nb_table.proofs.chain.Chain.promote.Given as goal
use Rattle.nb_table.proofs.Events.{promote_events}

abbrev pub ghosts-raises : goal.ghosts-raises
ghosts-raises a = record {
  shape = a.self.now.shape;
  events =
      promote_events a.seat.now.number a._for_proof.g;
}
