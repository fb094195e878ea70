use Rattle.std.specs.Prelude.{unwrap_or}
use Rattle.nb_table.proofs.Events.{copy_events}
use Rattle.nb_table.proofs.chain.Chain.copy_in.Given as goal

abbrev pub ghosts-exchanges : goal.ghosts-exchanges
ghosts-exchanges a = record {
  shape = a.self.now.shape;
  events = copy_events a.seat.now.number a._for_proof.g a._for_proof.i (unwrap_or a._for_proof.key 0)
      (unwrap_or a._for_proof.number 0);
}
