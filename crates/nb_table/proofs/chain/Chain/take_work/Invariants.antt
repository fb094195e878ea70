use Rattle.nb_table.proofs.chain.Chain.take_work.Given as goal
use Rattle.nb_table.proofs.Events.{take_events}

abbrev pub ghosts-adds : goal.ghosts-adds
ghosts-adds a = record { shape = a.self.now.shape; events = take_events a.seat.now.number a._for_proof.g }
