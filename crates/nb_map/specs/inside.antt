-- How contracts see what is in the crate's types, and contracts between the crate's own functions.
-- No promise of a public call cites them.
pub mod Models
pub mod Reserves
pub mod Climbing
pub mod Reading
pub mod Writing
pub mod Walking
pub mod Filling
pub mod Waiting
pub mod Firsts
pub mod There
