-- The laws of the protocol's calls, proved, by the names that crates/nb_migration/src/laws.rt gives
-- them, but for the one that follows from a law of nb_moving.
pub use Rattle.nb_migration.proofs.CallEvents.{calls_are_events}
pub use Rattle.nb_migration.proofs.EnteredCalls.{calls_are_entries}
pub use Rattle.nb_migration.proofs.MadeCalls.{calls_are_made_so}
pub use Rattle.nb_migration.proofs.RunLogs.{cores_have_logs}
pub use Rattle.nb_migration.proofs.Told.{answers_tell}
pub use Rattle.nb_migration.proofs.ToldStates.{states_are_told}
