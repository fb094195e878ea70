-- The laws of the counter, proved, by the names that crates/nb_count/src/laws.rt gives them.
pub use Rattle.nb_count.proofs.Gathered.{stripes_are_free, stripes_are_the_sum}
pub use Rattle.nb_count.proofs.Keeping.{looks_change_no_word}
