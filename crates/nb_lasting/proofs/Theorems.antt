-- The laws of the crate, proved, by the names that src/laws.rt gives them.
pub use Rattle.nb_lasting.proofs.Epochs.{one_log_for_all}
pub use Rattle.nb_lasting.proofs.Logged.{one_log}
