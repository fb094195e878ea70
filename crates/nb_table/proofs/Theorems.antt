-- What a crate above may rest on: what holds at each moment, and while it makes one step after
-- another.
pub use Rattle.nb_table.proofs.Growing.{own-none, steps_add_up}
pub use Rattle.nb_table.proofs.Moments.{goes_on, stepper_has_seen, words_are_lawful, words_change_lawfully, words_stand}
pub use Rattle.nb_table.proofs.Settling.{settled_as_closed, settled_is_all, settled_is_left, settled_twice}
