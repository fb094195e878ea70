use Rattle.std.proofs.Common.{unwrap_or}
use Rattle.nb_table.proofs.Events.{install_events}
use Rattle.nb_table.proofs.chain.Chain.install.Given as goal

abbrev pub ghosts-exchanges : goal.ghosts-exchanges
ghosts-exchanges a = record {
  shape = a.self.now.shape;
  events = install_events a.seat.now.number a._for_proof.g (unwrap_or a._for_proof.key 0);
}
