-- Lemmas.
pub mod OnceLemmas
