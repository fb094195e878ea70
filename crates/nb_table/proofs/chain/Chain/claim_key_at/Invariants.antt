use Rattle.std.proofs.Common.{unwrap_or}
use Rattle.nb_table.proofs.Events.{claim_events}
use Rattle.nb_table.proofs.chain.Chain.claim_key_at.Given as goal

abbrev pub ghosts-exchanges : goal.ghosts-exchanges
ghosts-exchanges a = record {
  shape = a.self.now.shape;
  events = claim_events a.seat.now.number a._for_proof.g a._for_proof.i (unwrap_or a._for_proof.key 0);
}
