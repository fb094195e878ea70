use Rattle.std.specs.Prelude.{unwrap_or}
use Rattle.nb_core.specs.States.{value_in_word}
use Rattle.nb_core.specs.declared.calls.Call.TheVariants.{Get}
use Rattle.nb_table.proofs.Events.{win_events}
use Rattle.nb_table.proofs.chain.Chain.win_value_at.Given as goal

abbrev pub ghosts-exchanges : goal.ghosts-exchanges
ghosts-exchanges a = record {
  shape = a.self.now.shape;
  events = win_events a.seat.now.number a._for_proof.g a._for_proof.i (value_in_word a.old)
      (value_in_word a.new) (unwrap_or a._for_proof.call (Get 0));
}
