-- The lemmas that crates above may rest on.
pub use Rattle.nb_texts.proofs.ForgettingLemmas.{lines-none, lines-with, within-above, within-bounds, within-distinct, within-entered, within-few, within-middle, within-none}
pub use Rattle.nb_texts.proofs.LinesLemmas.{with-append, with-few, with-grows}
pub use Rattle.nb_texts.proofs.MemoryLemmas.{kept-more, kept-none, no-more-room, over-with, unlimited}
pub use Rattle.nb_texts.proofs.TakingLemmas.{ended-errors, ended-or, ended-too_many, ended-too_often, left-as, left-told, no-count, no-memory, no-room, past-block, past-more, taken-as, taken-first, taken-whole}
pub use Rattle.nb_texts.proofs.TallyLemmas.{often-many}
