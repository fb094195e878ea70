-- Contracts between the crate's own functions. No promise of a public call cites them.
pub mod Guests
pub mod Present
