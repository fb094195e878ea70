-- The laws of a map's calls, proved, by the names that crates/nb_map/src/laws.rt gives them; and two
-- lemmas on the events of all seats.
pub use Rattle.nb_map.proofs.Batched.{reads_add_up}
pub use Rattle.nb_map.proofs.Crowding.{asks_add_up, crowded_by_calls, each-own, seats-below}
pub use Rattle.nb_map.proofs.Entries.{entries_at_rest}
pub use Rattle.nb_map.proofs.Logged.{logs_add_up}
pub use Rattle.nb_map.proofs.OneSeat.{one_seat}
pub use Rattle.nb_map.proofs.Replied.{replies_fit}
pub use Rattle.nb_map.proofs.Settled.{settled_is_ended, settled_twice}
pub use Rattle.nb_map.proofs.WholeWalk.{walk_lasts, whole_walk}
