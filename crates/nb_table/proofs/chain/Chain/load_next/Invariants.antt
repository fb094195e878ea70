use Rattle.std.specs.Prelude.{◌==◌}
use Rattle.nb_table.specs.Events.{reads, shown_by_next}
use Rattle.nb_table.proofs.chain.Chain.load_next.Given as goal

abbrev pub ghosts-loads : goal.ghosts-loads
ghosts-loads a = record {
  shape = a.self.now.shape;
  events = λ found. reads a.seat.now.number a._for_proof.call (λ k. shown_by_next (found == 1));
}
