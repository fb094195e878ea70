-- Lemmas.
pub mod CountedLemmas
pub mod FieldsLemmas
pub mod ForgottenLemmas
pub mod NumbersLemmas
pub mod PrintedLemmas
