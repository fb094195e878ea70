-- The laws of a set's calls, proved, by the names that crates/nb_set/src/laws.rt gives them.
pub use Rattle.nb_set.proofs.Added.{keys_add_up}
pub use Rattle.nb_set.proofs.Logged.{logs_add_up}
pub use Rattle.nb_set.proofs.Walked.{walk_lasts, whole_walk}
