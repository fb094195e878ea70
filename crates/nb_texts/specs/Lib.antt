-- The definitions that the contracts cite.
pub mod Catalogs
pub mod Claims
pub mod Clues
pub mod Entering
pub mod Forgetting
pub mod Hashes
pub mod Lines
pub mod Memory
pub mod Places
pub mod Rows
pub mod Sources
pub mod Stopped
pub mod Taking
pub mod Tallies
